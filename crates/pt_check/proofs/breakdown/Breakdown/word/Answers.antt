use Rattle.std.proofs.Common.{◌≡◌, ◌<◌, ◌∙◌, ℕ, List, [], ap, arith, get_or, length, map, sym}
use Rattle.std.proofs.lemmas.List.{get_or-map, length-map}
use Rattle.std.proofs.lemmas.List.FromFn.{get_or-map-range_with_len}
use Rattle.pt_check.specs.Breakdown.{class_word, class_words}
use Rattle.pt_check.specs.declared.breakdown.Breakdown.{Breakdown}
use Rattle.pt_check.proofs.breakdown.Breakdown.word.Goals as goal

-- of a table whose texts are the keys, the one at a class is its key
word_at : {W : Type 0} (now : W → List ℕ) (words : List W) (d : W) (breakdown : Breakdown) (class : ℕ) → class < 33
    → map now words ≡ class_words breakdown → now (get_or words class d) ≡ class_word breakdown class
word_at now words d breakdown class few all =
    let whole : length words ≡ 33 = sym (length-map words now) ∙ ap length all in
    let within : class < length words = omega (arith, whole, few) in
    sym (get_or-map now words class d [] within) ∙ ap (λ (l : List (List ℕ)). get_or l class []) all
    ∙ get_or-map-range_with_len (class_word breakdown) 0 33 class class [] few (omega arith)

pub returns : goal.returns
returns c = word_at _ c.words.result.now _ c.args.self c.args.class (omega (arith, c.requires)) c.words.ensures
