-- The header stands behind what was there, and the empty places behind it.
use Rattle.std.proofs.Common.{◌≡◌, ◌++◌, ap, ◌∙◌}
use Rattle.std.proofs.lemmas.List.{map-append}
use Rattle.std.specs.Option.{option_map}
use Rattle.std.specs.Arc.{arc_value}
use Rattle.frozen.specs.Shared.{shared_blocks}
use Rattle.frozen.proofs.LoadLemmas.{header_more, header_read}
use Rattle.frozen.proofs.loading.add_group.Goals as goal

pub returns-clause-kept : goal.returns-clause-kept
returns-clause-kept c = λ first kept.
    c.in_ok-leave_data.ensures.kept first
    (header_more c.args.geometry.now first (shared_blocks c.args.blocks.now.items) (shared_blocks c.append.new.self.items) (shared_blocks c.args.header.items) c.args.group kept
    (ap shared_blocks c.in_ok-append.ensures.items ∙ map-append (option_map arc_value) c.args.blocks.now.items c.args.header.items) c.requires.header)

pub returns-clause-told : goal.returns-clause-told
returns-clause-told c = λ image count of told.
    c.in_ok-leave_data.ensures.told image
    (header_read c.args.geometry.now image (shared_blocks c.args.blocks.now.items) (shared_blocks c.append.new.self.items) (shared_blocks c.args.header.items) c.args.group count
    (ap shared_blocks c.in_ok-append.ensures.items ∙ map-append (option_map arc_value) c.args.blocks.now.items c.args.header.items) of told)
