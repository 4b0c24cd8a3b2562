-- The log of a whole run, from what its turns tell.
use Rattle.std.proofs.Common.{arith, ◌≡◌, ℕ, ◌+◌, List, [], ◌∷◌, ◌++◌, length, refl, sym, ap, inl, inr, subst, ◌∙◌}
use Rattle.std.specs.Prelude.{Bool, true, false, cond, Option, None, Some, count_by, flat_map, take}
use Rattle.std.specs.Io.KnownBytes.{Appends}
use Rattle.std.proofs.Math.Seq.{take-append_seam, take-append-add}
use Rattle.std.proofs.lemmas.List.{flat_map_more}
use Rattle.std.proofs.lemmas.List.Sums.{sum_by-append}
use Rattle.std.proofs.lemmas.List.{append_assoc}
use Rattle.pt_state.proofs.Words.{Line, Done, Present, Skipped, End, line_text, AppendsFront}
use Rattle.pt_state.proofs.Fronts.{appends_nothing}
use Rattle.pt_state.specs.declared.job.Report.{Report}
use Rattle.pt_plan.specs.Lines.{end_line, is_done, is_present, is_skipped}
use Rattle.pt_move.specs.Lines.{
  CountsLine,
  FinishTold,
  GotFront,
  GotLine,
  HasTold,
  IsReport,
  HasToldAll,
  HasToldFront,
  SameLines,
  TellsEnd,
  TellsFront,
  TellsLine,
}
use Rattle.pt_move.specs.Running.{no_lines}
use Rattle.pt_move.specs.declared.mover.Turn.{Turn}
use Rattle.pt_move.specs.declared.mover.Turn.TheVariants as turn

appends_on : (b m a : Option (List ℕ)) (x y : List ℕ) → Appends b m x → Appends m a y → Appends b a (x ++ y)
appends_on None m a x y p q = tt
appends_on (Some xs) None a x y p q = absurd p
appends_on (Some xs) (Some ms) None x y p q = absurd q
appends_on (Some xs) (Some ms) (Some zs) x y p q = q ∙ (ap (λ l. l ++ y) p ∙ append_assoc xs x y)

count_one : (p : Line → Bool) (told : List Line) (line : Line) → count_by p (told ++ line ∷ []) ≡ count_by p told + (0 + cond (p line) 1 0)
count_one p told line = sum_by-append (λ l. cond (p l) 1 0) told (line ∷ [])

count_yes : (p : Line → Bool) (told : List Line) {line : Line} → p line ≡ true → count_by p (told ++ line ∷ []) ≡ count_by p told + 1
count_yes p told {line} is = count_one p told line ∙ ap (λ b. count_by p told + (0 + cond b 1 0)) is

count_no : (p : Line → Bool) (told : List Line) {line : Line} → p line ≡ false → count_by p (told ++ line ∷ []) ≡ count_by p told
count_no p told {line} is = let more : count_by p (told ++ line ∷ []) ≡ count_by p told + 0 = count_one p told line
    ∙ ap (λ b. count_by p told + (0 + cond b 1 0)) is in omega (arith, more)

report_more : (told : List Line) (line : Line) (c c' : Report) → IsReport told c → CountsLine line c c' → IsReport (told ++ line ∷ []) c'
report_more told (Done at bytes empty files id to) c c' (d, p, s) (e, f, g) =
    (count_yes is_done told refl ∙ (ap (λ n. n + 1) d ∙ sym e), count_no is_present told refl ∙ (p ∙ sym f), count_no is_skipped told refl ∙ (s ∙ sym g))
report_more told (Present at id to) c c' (d, p, s) (e, f, g) =
    (count_no is_done told refl ∙ (d ∙ sym e), count_yes is_present told refl ∙ (ap (λ n. n + 1) p ∙ sym f), count_no is_skipped told refl ∙ (s ∙ sym g))
report_more told (Skipped at why) c c' (d, p, s) (e, f, g) =
    (count_no is_done told refl ∙ (d ∙ sym e), count_no is_present told refl ∙ (p ∙ sym f), count_yes is_skipped told refl ∙ (ap (λ n. n + 1) s ∙ sym g))
report_more told (End done present skipped) c c' (d, p, s) (numbers, (e, f, g)) =
    (count_no is_done told refl ∙ (d ∙ sym e), count_no is_present told refl ∙ (p ∙ sym f), count_no is_skipped told refl ∙ (s ∙ sym g))

report_same : (told : List Line) (c c' : Report) → IsReport told c → SameLines c c' → IsReport told c'
report_same told c c' (d, p, s) (e, f, g) = (d ∙ sym e, p ∙ sym f, s ∙ sym g)

pub told_none : (b : Option (List ℕ)) (c : Report) → c ≡ no_lines → HasTold b b c
unfolding HasTold
told_none b c is = (
  [],
  (
    appends_nothing b,
    (
      sym (ap (λ (r : Report). r.done) is),
      sym (ap (λ (r : Report). r.present) is),
      sym
          (ap (λ (r : Report). r.skipped) is),
    ),
  ),
)

told_on : (b m a : Option (List ℕ)) (told : List Line) (line : Line) → Appends b m (flat_map line_text told) → Appends m a (line_text line)
    → Appends b a (flat_map line_text (told ++ line ∷ []))
told_on b m a told line first more = subst (Appends b a) (flat_map_more line_text [] told line) (appends_on b m a _ _ first more)

same_log : (b : Option (List ℕ)) {m a : Option (List ℕ)} (xs : List ℕ) → a ≡ m → Appends b m xs → Appends b a xs
same_log b xs same put = rw same put

pub told_more : (b m a : Option (List ℕ)) (c c' : Report) → HasTold b m c → TellsLine m a c c' → HasTold b a c'
unfolding HasTold TellsLine GotLine
told_more b m a c c' (told, (put, report)) turn = elim turn [
  | inl (quiet, same) ↦ (told, (same_log b _ quiet put, report_same told c c' report same))
  | inr (line, (more, counted)) ↦ (told ++ line ∷ [], (told_on b m a told line put more, report_more told line c c' report counted))
]

end_of : (told : List Line) (c : Report) → IsReport told c → End c.done c.present c.skipped ≡ end_line told
end_of told c (d, p, s) = λ i. End (sym d i) (sym p i) (sym s i)

told_all : (b m a : Option (List ℕ)) (c c' : Report) → HasTold b m c → TellsEnd m a c c' → HasToldAll b a c'
unfolding HasTold HasToldAll GotLine
told_all b m a c c' (told, (put, report)) (last, same) =
    (told, (appends_on b m a _ _ put (subst (λ l. Appends m a (line_text l)) (end_of told c report) last), report_same told c c' report same))

pub told_finished : (t : Turn) (b m a : Option (List ℕ)) (c c' : Report) → HasTold b m c → FinishTold t m a c c' → t ≡ turn.Finished → HasToldAll b a c'
told_finished t b m a c c' told last is = told_all b m a c c' told (rw is at last)

front_on : (b m a : Option (List ℕ)) (xs ys : List ℕ) → Appends b m xs → AppendsFront m a ys → AppendsFront b a (xs ++ ys)
front_on b m a xs ys put (n, front) = (length xs + n, subst (Appends b a) (sym (take-append-add xs ys n)) (appends_on b m a xs (take n ys) put front))

pub told_front : (b m a : Option (List ℕ)) (c c' : Report) → HasTold b m c → TellsFront m a c c' → HasToldFront b a
unfolding HasTold HasToldFront TellsFront GotFront
told_front b m a c c' (told, (put, report)) (turn, same) = elim turn [
  | inl quiet ↦ (
    told,
    (
      End 0 0 0,
      (
        length (flat_map line_text told),
        subst (Appends b a)
            (sym (take-append_seam (flat_map line_text told) (line_text (End 0 0 0)))) (same_log b _ quiet put),
      ),
    ),
  )
  | inr (line, front) ↦ (told, (line, front_on b m a _ _ put front))
]
