use Rattle.std.proofs.Common.{ap, ◌∙◌}
use Rattle.attributes.specs.Words.{attributes_in}
use Rattle.export_host.proofs.CopyLemmas.{same_inode}
use Rattle.export_host.proofs.getting.contents_at.Goals as goal

pub returns-clause-contents : goal.returns-clause-contents
returns-clause-contents g c = λ honest held.
    let kept = c.args.frozen.now in
    let image = g.D.Device.image c.args.device.now in
    let found = c.in_ok-found.found in
    record {
      number = found.number;
      mode = found.record.mode;
      links = found.record.links;
      size = found.record.size;
      answer = c.in_ok-found.ensures.found image held;
      kept = c.attributes_of-attributes.ensures ∙ ap (λ inode. attributes_in inode.attributes) (same_inode kept image held found.number);
      read = c.in_ok-bytes.ensures.read honest held;
    }
