-- A volume and its device go on together, and on each medium that the device had a moment of the volume stands.
use Rattle.std.proofs.Common.{◌≡◌, ℕ, ◌<◌, Bool, true, false, List, [], ◌∷◌, ◌++◌, sym, ap, ◌∙◌, All, length, append-nil}
use Rattle.std.proofs.lemmas.List.{append_assoc}
use Rattle.std.proofs.lemmas.List.Elements.{All-nil, All-push}
use Rattle.model.specs.Layout.{Geometry}
use Rattle.model.specs.View.{View, view_of}
use Rattle.ordering.specs.Cuts.{seen, rest}
use Rattle.queue_model.specs.Files.{updates}
use Rattle.device.specs.Media.{Held, Medium, cached, settled, synced, written, wrote}
use Rattle.power_cut.specs.Epochs.{Shows, ready_put}
use Rattle.power_cut.specs.Going.{GoWith, Rest, Add, Put, Sync, Settle, HeldSince, writes_on}
use Rattle.power_cut.specs.Standing.{StandsOn}
use Rattle.power_cut.specs.Volumes.{Goes_on, Rests, Adds, Puts, Syncs, Settles, Moment, syncs, writes}
use Rattle.power_cut.proofs.ImageLemmas.{stands_issued, stands_synced, stands_written}

-- a write, on both kinds of device
put_goes : (keeps_order : Bool) (geo : Geometry) (mounted : View) (m n : Moment) (a : ℕ) (bytes : List ℕ) → Goes_on geo mounted m n
    → Shows geo a bytes (seen (view_of geo n.durable) (rest (updates n.written) n.cut) (ready_put geo a bytes (rest (updates n.written) n.cut)).cut)
    → Goes_on geo mounted m (writes_on keeps_order geo a bytes n)
put_goes true geo mounted m n a bytes g shows = Syncs (Puts a bytes g shows)
put_goes false geo mounted m n a bytes g shows = Puts a bytes g shows

put_stands : (keeps_order : Bool) (geo : Geometry) (medium : Medium) (n : Moment) (a : ℕ) (bytes : List ℕ) → a < length medium.durable → StandsOn medium n
    → StandsOn (written keeps_order medium a bytes) (writes_on keeps_order geo a bytes n)
put_stands true geo medium n a bytes low s = stands_synced (cached medium a bytes) (writes geo a bytes n) (stands_written geo medium n a bytes low s)
put_stands false geo medium n a bytes low s = stands_written geo medium n a bytes low s

one_more : (geo : Geometry) (mounted : View) (h : Held) (m : Moment) (h' : Held) (keeps_order : Bool) (a : ℕ) (bytes : List ℕ) (n : Moment) → HeldSince geo mounted h m h'
    → Goes_on geo mounted m n → StandsOn (written keeps_order h'.now a bytes) n → HeldSince geo mounted h m (wrote keeps_order h' a bytes)
one_more geo mounted h m h' keeps_order a bytes n since g s = record {
  more = since.more ++ written keeps_order h'.now a bytes ∷ [];
  all = ap (λ ms. ms ++ written keeps_order h'.now a bytes ∷ []) since.all ∙ append_assoc h.media since.more (written keeps_order h'.now a bytes ∷ []);
  each = All-push (λ (medium : Medium). (k : Moment) × Goes_on geo mounted m k × StandsOn medium k) since.more (written keeps_order h'.now a bytes) since.each (n, g, s);
}

pub go_together : (geo : Geometry) (mounted : View) (keeps_order : Bool) (h : Held) (m : Moment) (h' : Held) (n : Moment) → StandsOn h.now m → GoWith geo mounted keeps_order h m h' n
    → Goes_on geo mounted m n × StandsOn h'.now n × HeldSince geo mounted h m h'
go_together geo mounted keeps_order h m h' n s Rest = (
  Rests,
  s,
  record { more = []; all = sym (append-nil h.media); each = All-nil (λ (medium : Medium). (k : Moment) × Goes_on geo mounted m k × StandsOn medium k) },
)
go_together geo mounted keeps_order h m h' n s (Add {h' = k'} {n = o} w next g step names) =
    let r = go_together geo mounted keeps_order h m k' o s g in
    (Adds w next r.0 step names, stands_issued k'.now o w next r.1, r.2)
go_together geo mounted keeps_order h m h' n s (Put {h' = k'} {n = o} a bytes g low shows) =
    let r = go_together geo mounted keeps_order h m k' o s g in
    let goes = put_goes keeps_order geo mounted m o a bytes r.0 shows in
    let stands = put_stands keeps_order geo k'.now o a bytes low r.1 in
    (goes, stands, one_more geo mounted h m k' keeps_order a bytes (writes_on keeps_order geo a bytes o) r.2 goes stands)
go_together geo mounted keeps_order h m h' n s (Sync {h' = k'} {n = o} g) =
    let r = go_together geo mounted keeps_order h m k' o s g in
    (Syncs r.0, stands_synced k'.now o r.1, record { more = r.2.more; all = r.2.all; each = r.2.each })
go_together geo mounted keeps_order h m h' n s (Settle {h' = k'} {n = o} held g none) =
    let r = go_together geo mounted keeps_order h m k' o s g in
    (Settles held r.0 none, record { durable = r.1.durable; loose = r.1.loose; within = r.1.within }, r.2)
