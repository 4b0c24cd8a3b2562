use Rattle.std.proofs.Common.{◌≡◌, ◌-◌, arith, rules, subst, suc}
use Rattle.std.specs.Path.{path_buf_bytes}
use Rattle.pt_guard.specs.Apart.{SearchesFor}
use Rattle.pt_guard.proofs.apart.+has_ancestor.Goals as goal

pub returns-then-eq : goal.returns-then-eq
returns-then-eq g t c = search rules

pub returns-then-pop : goal.returns-then-pop
returns-then-pop g t c =
    let left = c.args.search.left in
    let some : suc (left - 1) ≡ left = omega (arith, c.if-search-eq0.false) in
    subst (λ k. SearchesFor g.S.Places.does c.args.search.target k (path_buf_bytes c.args.path)
    c.args.system.now c.has_ancestor.new.system c.has_ancestor.result) some (search rules)
