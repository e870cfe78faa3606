use Rattle.std.proofs.Common.{◌-◌, [], refl, ◌∙◌, arith}
use Rattle.model.specs.View.{view_of}
use Rattle.queue_model.specs.Blocks.{home_of}
use Rattle.queue_model.specs.Entries.{has_id}
use Rattle.softdep_queue.proofs.Falling.{marks_of}
use Rattle.softdep_queue.proofs.Settled.{few_pending, settled}
use Rattle.softdep_queue.proofs.table.Table.settle.Goals as goal

pub release-requires : goal.release-requires
release-requires c = let r = c.requires in (c.args.geometry.now, record { queue = r.queue; q = r.q; ws = r.holds.written; takes = r.holds.takes })

pub strike_all-requires : goal.strike_all-requires
strike_all-requires c = let r = c.requires in record { queue = r.queue; q = r.q; ws = r.holds.written; released = c.release.ensures c.args.geometry.now r.queue r.q r.holds.written r.holds.takes }

pub overflow_sub-self : goal.overflow_sub-self
overflow_sub-self c =
    let r = c.requires in
    let geo = c.args.geometry.now in
    let ws = r.holds.written in
    let released = c.release.ensures geo r.queue r.q ws r.holds.takes in
    let struck = c.strike_all.ensures r.queue r.q ws released in
    let few = few_pending geo (view_of geo (λ _. [])) c.release.new.self c.strike_all.new.self r.queue r.q ws released struck in
    let len = c.len.ensures in
    omega (arith, few, len, c.strike_all.new.self.taken.ok)

pub returns : goal.returns
returns c queue q loose holds =
    let geo = c.args.geometry.now in
    let ws = holds.written in
    let released = c.release.ensures geo queue q ws holds.takes in
    let struck = c.strike_all.ensures queue q ws released in
    let few = few_pending geo (view_of geo (λ _. [])) c.release.new.self c.strike_all.new.self queue q ws released struck in
    settled geo (view_of geo (λ _. [])) c.release.new.self c.strike_all.new.self (record c.strike_all.new.self { pending = c.strike_all.new.self.pending - c.len.result; taken = c.clear.new.self }) queue q ws released struck (record {
      nodes = refl;
      chains = refl;
      ready = refl;
      latest = refl;
      taken = c.clear.ensures.items;
      capacity = c.clear.ensures.capacity;
      pending = (let len = c.len.ensures in omega (arith, few, len, c.strike_all.new.self.taken.ok));
    }) loose (marks_of (home_of geo) queue (has_id ws) q released.ties.represents holds.takes.ties.represents ∙ holds.cut)
