use Rattle.std.proofs.Common.{rules, inl}
use Rattle.pt_check.proofs.checking.Check.read_prefix.Goals as goal

pub returns-in_ok-tell_own-in-Ok-clause-read : goal.returns-in_ok-tell_own-in-Ok-clause-read
returns-in_ok-tell_own-in-Ok-clause-read g c =
    let same = g.met.S.Source.keeps_failing _ _ c.open_prefix.ensures.keeps in
    λ tree told.
    let trouble = c.in-Ok.ensures.trouble tree told in
    inl (search rules, c.in-Ok.ensures.prefix tree told, c.in-Ok.ensures.ended tree told)
