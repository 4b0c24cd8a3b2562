-- Leaving listings one by one.
use Rattle.std.proofs.Common.{◌≡◌, ℕ, ◌+◌, ◌-◌, ◌<◌, ◌≤◌, List, length, drop, ap, ◌∙◌, arith, suc}
use Rattle.std.proofs.lemmas.List.{length-drop}
use Rattle.pt_state.proofs.Words.{parent, Frame}
use Rattle.pt_scan.proofs.ObjectPaths.{parent_drops}

pub left_some : (n site : ℕ) (t t' : List Frame) → t' ≡ drop n t → n < length t - site → 0 < length t'
left_some n site t t' is within =
    let long : length t' ≡ length t - n = ap length is ∙ length-drop n t in
    omega (arith, long, within)

pub left_more : (n : ℕ) (t t' t'' : List Frame) → t' ≡ drop n t → t'' ≡ parent t' → t'' ≡ drop (n + 1) t
left_more n t t' t'' is more =
    let next : suc n ≡ n + 1 = omega (arith) in
    more ∙ (ap parent is ∙ (parent_drops n t ∙ ap (λ k. drop k t) next))

pub left_none : (t t' : List Frame) → t' ≡ t → t' ≡ drop 0 t
left_none t t' is = is

-- what is left down to a site is a listing at least
pub left_site : (site : ℕ) (t t' : List Frame) → 0 < site → site ≤ length t → t' ≡ drop (length t - site) t → 0 < length t'
left_site site t t' some long is =
    let left : length t' ≡ length t - (length t - site) = ap length is ∙ length-drop (length t - site) t in
    omega (arith, left, some, long)

pub ruleset leaving = (left_site, left_some, left_more, left_none)
