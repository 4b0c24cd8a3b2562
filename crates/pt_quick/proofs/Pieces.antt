-- A piece of a text that is read.
use Rattle.std.proofs.Common.{◌≡◌, ◌++◌, ◌∙◌, ◌+◌, ◌≤◌, ℕ, List, ap, arith, drop, length, sym, take}
use Rattle.std.proofs.Math.Seq.{take-append_seam}
use Rattle.std.proofs.lemmas.List.{drop-drop, length-take, take-append-drop}

-- the bytes that were read, and those behind them
pub piece : (text rest part room : List ℕ) (place count : ℕ) → rest ≡ drop place text → part ≡ take count rest
    → count ≤ length rest → drop place text ≡ take count (part ++ drop count room) ++ drop (place + count) text
piece text rest part room place count rest_is part_is most =
    let size : length part ≡ count = ap length part_is ∙ full in
    let front : take count (part ++ drop count room) ≡ part = ap (λ n. take n (part ++ drop count room)) (sym size)
    ∙ take-append_seam part (drop count room) in
    let all : drop place text ≡ part ++ drop count (drop place text) =
    sym (take-append-drop count (drop place text)) ∙ ap (λ l. l ++ drop count (drop place text)) (ap (take count) (sym rest_is) ∙ sym part_is) in
    all ∙ ap (λ l. l ++ drop count (drop place text)) (sym front) ∙ ap (λ l. take count (part ++ drop count room) ++ l) (drop-drop count place text)
  where
    full : length (take count rest) ≡ count
    full = omega (arith, most, length-take count rest)
