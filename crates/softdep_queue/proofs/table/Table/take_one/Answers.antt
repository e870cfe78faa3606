use Rattle.std.proofs.Common.{refl, sym, subst, arith}
use Rattle.ordering.specs.Cuts.{cell_of}
use Rattle.queue_model.specs.Blocks.{home_of}
use Rattle.queue_model.proofs.Standing.{id_low}
use Rattle.softdep_queue.specs.declared.table.Table.{Table}
use Rattle.softdep_queue.specs.Ties.{Takes, Shows, node_at}
use Rattle.softdep_queue.proofs.table.Table.take_one.Goals as goal

pub take_next-requires-clause-held : goal.take_next-requires-clause-held
take_next-requires-clause-held c = (c.args.geometry.now, c.requires.held)

pub returns-in_default : goal.returns-in_default
returns-in_default c queue q es takes =
    let none = c.in_default.ensures.next c.args.geometry.now queue q es takes in
    (subst (λ (t : Table). Takes c.args.geometry.now t queue q es) (sym none.1) takes, none.0, refl)

pub put-requires : goal.put-requires
put-requires c =
    let h = c.requires.held in
    let geo = c.args.geometry.now in
    let next = c.in-Some.ensures.next geo h.queue h.q h.ws h.takes in
    let e = next.0 in
    let node = next.3.ties.node (home_of geo (cell_of e.change)) e next.3.each.0 in
    record {
      update = e.change;
      shows = subst (λ i. Shows (node_at c.take_next.new.self.nodes.items i).update e.change) next.1 node.change;
      cell = node.cell;
      fits = node.fits;
      low = (let l = id_low (home_of geo) h.queue h.q next.3.ties.represents (home_of geo (cell_of e.change)) e next.3.each.0 in let n = next.3.ties.next in let d = next.1 in omega (arith, l, n, d));
    }

pub returns : goal.returns
returns c queue q es takes =
    let geo = c.args.geometry.now in
    let next = c.in-Some.ensures.next geo queue q es takes in
    let e = next.0 in
    let node = next.3.ties.node (home_of geo (cell_of e.change)) e next.3.each.0 in
    (e, next.2, next.3, c.put.ensures e.change (subst (λ i. Shows (node_at c.take_next.new.self.nodes.items i).update e.change) next.1 node.change))
