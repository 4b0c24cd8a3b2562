-- What the end of a log is and counts.
use Rattle.std.proofs.Common.{◌≡◌, ◌∙◌, ◌-◌, ◌<◌, ◌≤◌, Bool, List, ℕ, ap, arith, cond, drop, false, get_or, length, length-drop, refl, rules, sym, take}
use Rattle.std.proofs.Common.{true}
use Rattle.std.proofs.lemmas.Grind.{common_steps}
use Rattle.std.proofs.lemmas.List.{take_all}
use Rattle.std.proofs.lemmas.List.Sums.{suffix_len_is}
use Rattle.std.proofs.lemmas.Str.{IsUtf8-from_is_utf8, is_utf8-from_IsUtf8}
use Rattle.std.specs.List.{IsLastAndRest, after_last, suffix_len}
use Rattle.std.specs.Prelude.{◌==◌, None, Option, Some, not, slice_index}
use Rattle.std.specs.Str.{IsUtf8, is_utf8}
use Rattle.serde_json.specs.Data.{Data}
use Rattle.serde_json.specs.Read.{read}
use Rattle.pt_messages.specs.Expected.{json_in, last_line}

-- the JSON of a text
pub json_is : (bytes text : List ℕ) (json : Option Data) → text ≡ bytes → IsUtf8 bytes → read text ≡ json → json ≡ json_in bytes
json_is bytes text json same utf8 is =
    sym is ∙ ap read same ∙ sym (ap (λ (it : Bool). cond it (read bytes) None) (is_utf8-from_IsUtf8 bytes utf8))

-- no other bytes are JSON
pub json_is_none : (bytes : List ℕ) → ¬ (IsUtf8 bytes) → None ≡ json_in bytes
json_is_none bytes other = none (is_utf8 bytes) refl where
  none : (b : Bool) → is_utf8 bytes ≡ b → None ≡ cond b (read bytes) None
  none true is = absurd (other (IsUtf8-from_is_utf8 bytes is))
  none false is = refl

-- a byte that is no LF
passes : (byte : ℕ) → (byte ≡ 10 → ⊥) → not (byte == 10) ≡ true
passes byte other = grind (arith, common_steps)

-- the last line begins there
pub last_line_is : (bytes lines : List ℕ) (last begin : ℕ) → IsLastAndRest bytes last lines → last ≡ 10 → begin ≤ length lines
    → ((k : ℕ) → begin ≤ k → k < length lines → get_or lines k 0 ≡ 10 → ⊥) → (0 < begin → get_or lines (begin - 1) 0 ≡ 10)
    → Some (take (length lines - begin) (drop begin lines)) ≡ last_line bytes
last_line_is bytes lines last begin (whole, longer) is within none before =
    let long : length bytes - 1 ≡ length lines = omega (arith, longer) in
    let ends : slice_index bytes (length bytes - 1) ≡ 10 =
    ap (slice_index bytes) long ∙ ap (λ (it : List ℕ). slice_index it (length lines)) whole ∙ search (rules, common_steps) ∙ is in
    let front : take (length bytes - 1) bytes ≡ lines =
    ap (λ (n : ℕ). take n bytes) long ∙ ap (λ (it : List ℕ). take (length lines) it) whole ∙ search (rules, common_steps) in
    let from : length lines - suffix_len (λ byte. not (byte == 10)) lines ≡ begin = omega (
      arith,
      suffix_len_is (λ byte. not (byte == 10)) lines begin 0 within
          (λ k from to. passes (get_or lines k 0) (none k from to)) (λ some. ap (λ byte. not (byte == 10)) (before some)),
    ) in
    let all : take (length lines - begin) (drop begin lines) ≡ drop begin lines =
    take_all (length lines - begin) (drop begin lines) (simp length-drop (omega arith)) in
    ap Some (all ∙ ap (λ (n : ℕ). drop n lines) (sym from) ∙ ap (λ (it : List ℕ). after_last (λ byte. byte == 10) it) (sym front))
    ∙ sym (ap (λ (n : ℕ). cond (n == 10) (Some (after_last (λ byte. byte == 10) (take (length bytes - 1) bytes))) None) ends)
