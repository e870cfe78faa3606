use Rattle.std.proofs.Common.{◌≡◌, Bor, ℕ, List, Option, IfErr, inl, inr, refl, sym, ap, subst, ◌∙◌}
use Rattle.fuse_writer.specs.declared.session.Session.{Session}
use Rattle.std.specs.Option.{option_copied, option_map_or}
use Rattle.dirent.specs.Seen.{seen}
use Rattle.frozen.specs.Kept.{frozen_view}
use Rattle.model.specs.Layout.{inode_count}
use Rattle.model.specs.Slots.{Slot, Absent, Bad, Empty, Good, slot, slot_in, slot_of}
use Rattle.fuse_writer.specs.Doings.{Doing, MayLead, refuses}
use Rattle.fuse_writer.specs.Requests.{adds_slot}
use Rattle.fuse_writer.proofs.PlusLemmas.{lead_same}
use Rattle.fuse_writer.proofs.listing.add_slot.Goals as goal

pub returns-in-Good-clause-refused : goal.returns-in-Good-clause-refused
returns-in-Good-clause-refused c =
    let kept = c.args.frozen.now in
    let geo = kept.geometry in
    let found = c.directory_block.ensures.slots c.args.place refl
    ∙ ap (λ (o : Option (Bor (List ℕ))). option_map_or (λ block. slot_in geo block c.args.place) (option_copied o) Absent) c.in-Some.is in
    let count : c.inodes.result ≡ inode_count geo = cc in
    let at : slot geo (frozen_view kept) c.args.listed.directory c.args.place ≡ Good c.in-Good.number c.in-Good.name.now =
    found ∙ ap (λ n. slot_of n c.in-Some.block.now c.args.place) (sym count) ∙ sym c.slot_in.ensures ∙ ap seen c.in-Good.is in
    subst (λ (x : Slot). IfErr c.add_name.result (λ error. (next : Session → List ℕ → Doing)
    → MayLead (adds_slot kept c.args.session.now c.args.listed.directory c.args.listed.room c.args.place x c.args.listing.now.items next) c.args.session.now (refuses error) c.add_name.new.session))
    (sym at) c.add_name.ensures.refused

pub returns-in-Empty : goal.returns-in-Empty
returns-in-Empty c =
    let kept = c.args.frozen.now in
    let geo = kept.geometry in
    let found = c.directory_block.ensures.slots c.args.place refl
    ∙ ap (λ (o : Option (Bor (List ℕ))). option_map_or (λ block. slot_in geo block c.args.place) (option_copied o) Absent) c.in-Some.is in
    let count : c.inodes.result ≡ inode_count geo = cc in
    let at : slot geo (frozen_view kept) c.args.listed.directory c.args.place ≡ seen c.slot_in.result =
    found ∙ ap (λ n. slot_of n c.in-Some.block.now c.args.place) (sym count) ∙ sym c.slot_in.ensures in
    record {
      added = λ next.
          let says : Slot → Doing = λ x. adds_slot kept c.args.session.now c.args.listed.directory c.args.listed.room c.args.place x c.args.listing.now.items next in
          elim c.in-Empty.is [
            | inl h ↦ lead_same (ap says (at ∙ ap seen h))
            | inr h ↦ lead_same (ap says (at ∙ ap seen h))
          ];
      refused = tt;
      few = c.requires;
    }
