-- What a read gives.
use Rattle.std.proofs.Common.{◌≡◌, ◌++◌, ◌∙◌, ◌+◌, ◌≤◌, ℕ, List, ap, arith, drop, length, sym, take}
use Rattle.std.proofs.Math.Seq.{take-append_seam}
use Rattle.std.proofs.lemmas.List.{drop-drop, length-take, take-append-drop}

-- the bytes that were taken, and those behind them
pub piece : (bytes rest part buffer : List ℕ) (place count : ℕ) → rest ≡ drop place bytes → part ≡ take count rest
    → count ≤ length rest → drop place bytes ≡ take count (part ++ drop count buffer) ++ drop (place + count) bytes
piece bytes rest part buffer place count rest_is part_is most =
    let size : length part ≡ count = ap length part_is ∙ full in
    let front : take count (part ++ drop count buffer) ≡ part = ap (λ n. take n (part ++ drop count buffer)) (sym size)
    ∙ take-append_seam part (drop count buffer) in
    let all : drop place bytes ≡ part ++ drop count (drop place bytes) =
    sym (take-append-drop count (drop place bytes)) ∙ ap (λ l. l ++ drop count (drop place bytes)) (ap (take count) (sym rest_is) ∙ sym part_is) in
    all ∙ ap (λ l. l ++ drop count (drop place bytes)) (sym front) ∙ ap (λ l. take count (part ++ drop count buffer) ++ l) behind
  where
    full : length (take count rest) ≡ count
    full = omega (arith, most, length-take count rest)

    behind : drop count (drop place bytes) ≡ drop (place + count) bytes
    behind = drop-drop count place bytes
