use Rattle.std.proofs.Common.{Some, IsSome, sym, ap, ◌∙◌, subst}
use Rattle.model.specs.Cells.{put_at}
use Rattle.live_states.specs.Holdings.{Holdings, opened_by}
use Rattle.live_holdings.proofs.Tables.{table_set, within_table}
use Rattle.live_holdings.proofs.Holdings.open.Goals as goal

pub returns-else-handle-len-clause-opened : goal.returns-else-handle-len-clause-opened
returns-else-handle-len-clause-opened c = record {
  opened = table_set c.self.inside.handles.items c.args.handle (Some c.args.number)
      (within_table c.self.inside.handles.items c.args.handle (λ g low. subst (λ (l : Holdings). IsSome (opened_by l g)) (sym c.self.view_is) (c.requires.least g low)) (λ e. c.if-handle-len.false (e ∙ sym (c.len.ensures ∙ c.self.inside.handles.ok.0))))
      ∙ ap (λ (l : Holdings). put_at (opened_by l) c.args.handle (Some c.args.number)) c.self.view_is;
  held = ap (λ (l : Holdings). l.held) c.self.view_is;
  snapshots = ap (λ (l : Holdings). l.snapshots) c.self.view_is;
  repairs = ap (λ (l : Holdings). l.repairs) c.self.view_is;
}
