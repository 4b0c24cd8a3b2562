-- A file that is read block by block.
use Rattle.std.proofs.Common.{◌≡◌, ◌<◌, ℕ, zero, suc, ◌+◌, List, [], ◌∷◌, ◌++◌, refl, ap, sym, ◌∙◌, length, arith, drop, take, append_assoc, append-nil}
use Rattle.std.specs.Prelude.{Option, Some}
use Rattle.std.specs.Option.{option_map}
use Rattle.std.proofs.lemmas.List.{length-append, length-take-le, take-append-drop}
use Rattle.std.proofs.Math.Seq.{take-append_seam, drop-append_seam}
use Rattle.pt_invariant.specs.SourceInvariant.{IsReading}
use Rattle.pt_invariant.proofs.source.InPairtree.{some_same}

fed_length : {bytes : List ℕ} {count : ℕ} {fed : List ℕ} {unread : Option (List ℕ)} → IsReading bytes count fed unread → length fed ≡ count
fed_length {bytes} {count} it = ap length it.fed_is ∙ length-take-le count bytes it.within

-- a file is read from its start
pub reads_first : {bytes : List ℕ} {unread : Option (List ℕ)} → unread ≡ Some bytes → IsReading bytes 0 [] unread
reads_first is = record { within = omega arith; fed_is = refl; left = is }

-- a block more
pub reads_block : (most : ℕ) (bytes : List ℕ) (count : ℕ) (fed block : List ℕ) (unread : Option (List ℕ)) → IsReading bytes count fed unread
    → option_map (take most) unread ≡ Some block
    → IsReading bytes (count + length block) (fed ++ block) (option_map (drop most) unread)
reads_block most bytes count fed block unread it read =
    let rest = drop count bytes in
    let behind = drop most rest in
    let is_block : take most rest ≡ block = some_same (take most rest) block (sym (ap (option_map (take most)) it.left) ∙ read) in
    let here : bytes ≡ fed ++ rest = sym (take-append-drop count bytes) ∙ ap (λ (l : List ℕ). l ++ rest) (sym it.fed_is) in
    let whole : bytes ≡ (fed ++ block) ++ behind =
    here ∙ ap (λ (l : List ℕ). fed ++ l) (sym (take-append-drop most rest) ∙ ap (λ (l : List ℕ). l ++ behind) is_block) ∙ sym (append_assoc fed block behind) in
    let many : length (fed ++ block) ≡ count + length block =
    (let both = length-append fed block in let front = fed_length it in omega (arith, both, front)) in
    let long : length bytes ≡ length (fed ++ block) + length behind = ap length whole ∙ length-append (fed ++ block) behind in
    record {
      within = omega (arith, many, long);
      fed_is = sym (take-append_seam (fed ++ block) behind) ∙ ap (λ (n : ℕ). take n ((fed ++ block) ++ behind)) many
          ∙ ap (take (count + length block)) (sym whole);
      left =
          ap (option_map (drop most)) it.left
          ∙ ap (λ (l : List ℕ). Some l) (sym (drop-append_seam (fed ++ block) behind) ∙ ap (λ (n : ℕ). drop n ((fed ++ block) ++ behind)) many
          ∙ ap (drop (count + length block)) (sym whole));
    }

none_taken : (most : ℕ) (xs : List ℕ) → 0 < most → take most xs ≡ [] → xs ≡ []
none_taken zero xs some none = absurd (omega (arith, some))
none_taken (suc most) [] some none = refl
none_taken (suc most) (x ∷ xs) some none = absurd (cc)

-- at the end all was read
pub record IsWhole (bytes : List ℕ) (count : ℕ) (fed : List ℕ) : Type 0 where
  pub all : fed ≡ bytes
  pub length_is : count ≡ length bytes

pub reads_end : (most : ℕ) (bytes : List ℕ) (count : ℕ) (fed : List ℕ) (unread : Option (List ℕ)) → 0 < most → IsReading bytes count fed unread
    → option_map (take most) unread ≡ Some [] → IsWhole bytes count fed
reads_end most bytes count fed unread some it read =
    let rest = drop count bytes in
    let none : rest ≡ [] = none_taken most rest some (some_same (take most rest) [] (sym (ap (option_map (take most)) it.left) ∙ read)) in
    let all : fed ≡ bytes = it.fed_is ∙ sym (append-nil (take count bytes)) ∙ ap (λ (l : List ℕ). take count bytes ++ l) (sym none)
    ∙ take-append-drop count bytes in
    record { all = all; length_is = sym (fed_length it) ∙ ap length all }
