use Rattle.std.proofs.Common.{length, refl, sym, ap, ◌∙◌, subst}
use Rattle.device.proofs.ReadingLemmas.{reads_on}
use Rattle.frozen.specs.Kept.{IsKeptOf}
use Rattle.model.specs.Image.{image_view}
use Rattle.export_host.specs.Copies.{MadeMore}
use Rattle.export_host.proofs.CopyLemmas.{made_both, made_none}
use Rattle.export_host.proofs.getting.get_listings.Goals as goal

pub loop-listing-init : goal.loop-listing-init
loop-listing-init g c =
    let kept = c.args.part.now.frozen.now in
    record {
      reads = record { same = refl; held = refl; honest = λ h. h };
      more = λ h is. made_none kept.geometry (image_view kept.geometry (g.D.Device.image c.args.device.now)) c.args.copies.now.files.items;
    }

pub get_listing-requires : goal.get_listing-requires
get_listing-requires g c = record { count = ap length c.loop-listing.invariant.reads.same ∙ c.requires.count }

pub loop-listing-preserved : goal.loop-listing-preserved
loop-listing-preserved g c =
    let inv = c.loop-listing.invariant in
    let kept = c.args.part.now.frozen.now in
    let old = c.args.copies.now.files.items in
    let mid = c.loop-listing.copies.files.items in
    let new = c.get_listing.new.copies.files.items in
    record {
      reads = reads_on inv.reads c.get_listing.ensures.reads;
      more = λ h is. made_both kept.geometry (image_view kept.geometry (g.D.Device.image c.args.device.now)) old mid new (inv.more (c.get_listing.ensures.reads.honest h) is)
          (subst (λ image. MadeMore kept.geometry (image_view kept.geometry image) mid new) inv.reads.same (c.in_ok-get_listing.ensures.more h (subst (IsKeptOf kept) (sym inv.reads.same) is)));
    }
