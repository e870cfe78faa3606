use Rattle.std.proofs.Common.{sym, ◌∙◌}
use Rattle.std.proofs.lemmas.Result.{IfOk-weaker}
use Rattle.import_tree.proofs.PutLemmas.{adds_bare, adds_file, adds_folder, adds_link}
use Rattle.import_tree.proofs.filling.make_item.Goals as goal

pub returns-then-has_bytes-clause-item : goal.returns-then-has_bytes-clause-item
returns-then-has_bytes-clause-item g c =
    let held = g.D.Device.held in
    let image = g.D.Device.image in
    let old = c.args.volume.now in
    let new = c.make_file_from.new.volume in
    IfOk-weaker c.make_file_from.result _ _ (λ given made honest.
    adds_file (held old.device) (held new.device) (image old.device) (image new.device) old new c.args.item.now given c.as_slice-path.result.now c.as_slice-path.ensures.value (sym c.has_bytes.ensures ∙ c.if-has_bytes.true) (made honest)) c.make_file_from.ensures.made

pub returns-then-is_bare-clause-item : goal.returns-then-is_bare-clause-item
returns-then-is_bare-clause-item g c =
    let held = g.D.Device.held in
    let image = g.D.Device.image in
    let old = c.args.volume.now in
    let new = c.make_bare.new.volume in
    IfOk-weaker c.make_bare.result _ _ (λ given made honest.
    adds_bare (held old.device) (held new.device) (image old.device) (image new.device) old new c.args.item.now given c.as_slice-path.result.now c.as_slice-path.ensures.value (sym c.is_bare.ensures ∙ c.if-is_bare.true) (made honest)) c.make_bare.ensures.made

pub returns-then-is_hard_link-clause-item : goal.returns-then-is_hard_link-clause-item
returns-then-is_hard_link-clause-item g c =
    let held = g.D.Device.held in
    let image = g.D.Device.image in
    let old = c.args.volume.now in
    let new = c.make_link_from.new.volume in
    IfOk-weaker c.make_link_from.result _ _ (λ given made honest.
    adds_link (held old.device) (held new.device) (image old.device) (image new.device) old new c.args.item.now given c.as_slice-path.result.now c.as_slice-path.ensures.value (sym c.is_hard_link.ensures ∙ c.if-is_hard_link.true) (made honest)) c.make_link_from.ensures.made

pub returns-clause-item : goal.returns-clause-item
returns-clause-item g c =
    let held = g.D.Device.held in
    let image = g.D.Device.image in
    let old = c.args.volume.now in
    let new = c.make_empty_folder.new.volume in
    IfOk-weaker c.make_empty_folder.result _ _ (λ given made honest.
    adds_folder (held old.device) (held new.device) (image old.device) (image new.device) old new c.args.item.now given c.as_slice-path.result.now c.as_slice-path.ensures.value (sym c.has_bytes.ensures ∙ c.if-has_bytes.false) (sym c.is_bare.ensures ∙ c.if-is_bare.false) (sym c.is_hard_link.ensures ∙ c.if-is_hard_link.false) (made honest)) c.make_empty_folder.ensures.made
