use Rattle.std.proofs.Common.{length, refl, sym, ap, ◌∙◌, subst}
use Rattle.device.proofs.ReadingLemmas.{reads_on}
use Rattle.frozen.specs.Kept.{IsKeptOf}
use Rattle.model.specs.Image.{image_view}
use Rattle.export_host.specs.Copies.{MadeMore}
use Rattle.export_host.proofs.CopyLemmas.{made_both, made_none}
use Rattle.export_host.proofs.getting.get_listing.Goals as goal

pub loop-named-init : goal.loop-named-init
loop-named-init g c =
    let kept = c.args.part.now.frozen.now in
    record {
      reads = record { same = refl; held = refl; honest = λ h. h };
      more = λ h is. made_none kept.geometry (image_view kept.geometry (g.D.Device.image c.args.device.now)) c.args.copies.now.files.items;
    }

pub get_named-requires : goal.get_named-requires
get_named-requires g c = record { count = ap length c.loop-named.invariant.reads.same ∙ c.requires.count }

pub loop-named-preserved : goal.loop-named-preserved
loop-named-preserved g c =
    let inv = c.loop-named.invariant in
    let kept = c.args.part.now.frozen.now in
    let old = c.args.copies.now.files.items in
    let mid = c.loop-named.copies.files.items in
    let new = c.get_named.new.copies.files.items in
    record {
      reads = reads_on inv.reads c.get_named.ensures.reads;
      more = λ h is. made_both kept.geometry (image_view kept.geometry (g.D.Device.image c.args.device.now)) old mid new (inv.more (c.get_named.ensures.reads.honest h) is)
          (subst (λ image. MadeMore kept.geometry (image_view kept.geometry image) mid new) inv.reads.same (c.in_ok-get_named.ensures.more h (subst (IsKeptOf kept) (sym inv.reads.same) is)));
    }
