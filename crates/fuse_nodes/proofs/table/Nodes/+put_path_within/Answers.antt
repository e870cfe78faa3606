use Rattle.std.proofs.Common.{◌≡◌, ◌-◌, ◌++◌, ◌∷◌, [], suc, Some, IfSome, ap, arith, slice_get, slice_index_or, subst, sym, ◌∙◌}
use Rattle.fuse_nodes.specs.Known.{Known, fresh}
use Rattle.fuse_nodes.specs.Table.{known, path_of}
use Rattle.fuse_nodes.proofs.Paths.{path_goes_on}
use Rattle.fuse_nodes.proofs.table.Nodes.+put_path_within.Goals as goal

pub returns-clause-path : goal.returns-clause-path
returns-clause-path t c =
    let node : known c.args.self.now c.args.number ≡ c.in-Some.node.now = sym (c.in-Some.ensures.lookup.3.1 fresh ∙ ap (λ nodes. slice_index_or nodes c.args.number fresh) (c.deref.ensures.value ∙ c.self.view_is)) in
    let first : slice_get (known c.args.self.now c.args.number).names 0 ≡ Some c.in-Some-first.place.now =
    ap (λ (k : Known). slice_get k.names 0) node ∙ ap (λ names. slice_get names 0) (sym c.names.ensures) ∙ sym c.in-Some-first.ensures in
    let front : IfSome (path_of (c.args.names - 1) c.args.self.now c.in-Some-first.place.now.directory) (λ path. c.put_path_within.new.out.items ≡ c.args.out.now.items ++ path) =
    subst (λ d. IfSome (path_of (c.args.names - 1) c.args.self.now d) (λ path. c.put_path_within.new.out.items ≡ c.args.out.now.items ++ path)) c.directory.ensures c.in_ok-put_path_within.ensures.path in
    let written : c.extend_from_slice.new.self.items ≡ (c.put_path_within.new.out.items ++ 47 ∷ []) ++ c.in-Some-first.place.now.name =
    c.in_ok-extend_from_slice.ensures.items ∙ ap (λ xs. xs ++ c.name.result.now) c.in_ok-push.ensures.items
    ∙ ap (λ text. (c.put_path_within.new.out.items ++ 47 ∷ []) ++ text) c.name.ensures in
    let names : suc (c.args.names - 1) ≡ c.args.names = omega (arith, c.if-names-eq0.false) in
    subst (λ n. IfSome (path_of n c.args.self.now c.args.number) (λ path. c.extend_from_slice.new.self.items ≡ c.args.out.now.items ++ path)) names
    (path_goes_on (c.args.names - 1) c.args.self.now c.args.number c.in-Some-first.place.now c.args.out.now.items c.put_path_within.new.out.items c.extend_from_slice.new.self.items
    c.if-number-eq-ROOT.false first front written)
