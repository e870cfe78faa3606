use Rattle.std.proofs.Common.{◌≡◌, [], ◌∙◌, ap, false, subst, sym}
use Rattle.model.specs.Reach.{IsReachable}
use Rattle.model.specs.Image.{image_view}
use Rattle.ordering.specs.Cuts.{rest}
use Rattle.courses.specs.Serves.{IsBeginning}
use Rattle.softdep.specs.Queued.{pending_of}
use Rattle.live_states.specs.Holdings.{held_by}
use Rattle.live.specs.Alive.{disk_of}
use Rattle.live.proofs.Durably.{leaves_safe, sound_from_here}
use Rattle.snapshot.specs.Goes.{pieces_in}
use Rattle.snapshot.specs.Stages.{geometry_at, state_at}
use Rattle.snapshot.proofs.SyncedLemmas.{owned_now, owned_then, shown_now, shown_then}
use Rattle.snapshot.proofs.laws.what_a_sync_has_seen_outlives_power_cuts.Goals as goal

pub returns : goal.returns
returns g c = λ s t u commands more replies others is leads sound synced files there then.
    let geo = geometry_at s in
    let at = geometry_at t in
    let begins : IsBeginning geo is.begun.mount is.begun.history is.begun.cut (disk_of s.image s.volume) (pending_of s.volume.queue) (state_at s) (λ f. false) = record { stands = is.stands; moment = is.begun.moment } in
    let first = leads.service is.begun.mount is.begun.history is.begun.cut (λ f. false) begins in
    let durable = (first.2.sound sound).0 in
    let none : pending_of t.volume.queue ≡ [] = durable.durably.pending ∙ ap (λ q. rest q durable.durably.loose) synced.0 in
    let disk = disk_of t.image t.volume in
    let anew = c.services_begin_anew_with_nothing_pending.ensures geo is.begun.mount is.begun.history is.begun.cut (disk_of s.image s.volume) (pending_of s.volume.queue) (state_at s) (λ f. false) begins
    disk (pending_of t.volume.queue) (state_at t) first.0 commands replies leads.later first.1 none files (λ f a. (subst (λ x. IsReachable x disk f) leads.geometry (there f a).0, (there f a).1)) in
    let begin = subst (λ x. IsBeginning x is.begun.mount anew.0 anew.1 disk (pending_of t.volume.queue) (state_at t) files) (sym leads.geometry) anew.2 in
    let here = sound_from_here t.held.now at t.volume.queue (held_by t.volume.holdings) first.0 durable synced.0 files
    (λ f a. subst (λ image. IsReachable at (image_view at image) f × (((image_view at image).inode f).mode ≡ 1)) synced.1 (there f a)) in
    let on = here.sound in
    let later = then.service is.begun.mount anew.0 anew.1 files begin in
    let adds = later.2.adds on in
    let own = owned_then t u files later.0 on (later.2.sound on).0 here.mount here.history synced.1 here.owns adds (pieces_in at (state_at t) more others (state_at u) then.run) (later.2.owns on [] here.owns) in (
      leaves_safe t.held.now at t.volume.queue (held_by t.volume.holdings) files on,
      record {
        later = then.later;
        left = later.0;
        service = later.1;
        spared = λ f a spared. c.files_that_lose_no_name_stay_safe.ensures at is.begun.mount anew.0 anew.1 disk (pending_of t.volume.queue) (state_at t) files begin
            (disk_of u.image u.volume) (pending_of u.volume.queue) (state_at u) later.0 more others then.later later.1 f spared a;
        held = (later.2.sound on).1;
        now = shown_now t u files later.0 on (later.2.sound on).0 here.mount here.history synced.1;
        written = adds.added;
        more = adds.more;
        media = adds.media;
        shown = shown_then t u files later.0 on (later.2.sound on).0 here.mount here.history synced.1 adds;
        run = then.run;
        puts = own.0;
        pieces = own.1;
        own_now = owned_now t u files later.0 on (later.2.sound on).0 here.mount here.history synced.1 here.owns;
        along = own.2;
        own = own.3;
        looking = later.2.looking on;
      },
    )
