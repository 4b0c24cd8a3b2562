use Rattle.std.proofs.Common.{◌≡◌, Bool, true, length, nat_lt, sym, ◌∙◌, ap, arith, drop}
use Rattle.std.specs.Prelude.{◌&&◌, slice_range}
use Rattle.std.proofs.lemmas.Bool.{and_from, ltb-true}
use Rattle.std.proofs.lemmas.List.{take_rest}
use Rattle.std.proofs.lemmas.Bool.Decides.{nat_tests}
use Rattle.pt_object.specs.Moment.{is_date_time as is_date_time_of, is_offset as is_offset_of}
use Rattle.pt_object.proofs.moment.is_moment.Goals as goal
use Rattle.pt_object.proofs.moment.is_moment.Goals.{then-text-gt19, else-text-gt19}

pub returns-then-is_date_time : goal.returns-then-is_date_time
returns-then-is_date_time c = elim c.if-text-gt19.branch [
  | then-text-gt19 w ↦
      let long : nat_lt 19 (length c.args.text.now) ≡ true = grind (arith, nat_tests) in
      let front : is_date_time_of (slice_range c.args.text.now 0 19) ≡ true = sym w.is_date_time.ensures ∙ sym w.value-is ∙ c.if-is_date_time.true in
      c.is_offset.ensures ∙ ap is_offset_of (take_rest c.args.text.now 19)
      ∙ sym (ap (λ (b : Bool). b && is_offset_of (drop 19 c.args.text.now))
      (and_from (nat_lt 19 (length c.args.text.now)) (is_date_time_of (slice_range c.args.text.now 0 19)) long front))
  | else-text-gt19 w ↦ let long : nat_lt 19 (length c.args.text.now) ≡ true = sym w.value-is ∙ c.if-is_date_time.true in
      absurd (omega (arith, ltb-true 19 (length c.args.text.now) long))
]
