use Rattle.std.proofs.Common.{◌∙◌, [], ◌*◌, ◌%◌, Bor, List, ℕ, ap, eq-eqb, map, ne_eqb, refl, subst, sym, take_all}
use Rattle.pt_rehearsal.specs.Buckets.{IsHalved, texts_in}
use Rattle.pt_rehearsal.proofs.Packed.{free_at, gone_too, stayed_too}
use Rattle.pt_rehearsal.proofs.text_set.halve.Goals as goal
use Rattle.pt_rehearsal.proofs.text_set.halve.Goals.{then-hash-base+in_ok-append, else-hash-base+in_ok-append-2}

abbrev now : Bor (List ℕ) → List ℕ
now t = t.now

abbrev none : Bor (List ℕ)
none = record { ref_ptr = (0, 0); now = [] }

pub loop-text-init : goal.loop-text-init
loop-text-init c = rw (c.new.ensures.items, c.new-2.ensures.items) (record { stay = refl; go = refl })

pub append-requires : goal.append-requires
append-requires c =
    free_at c.args.bucket.now c.deref-text-items.result.now c.loop-text.text-index _ (ap (map now) c.deref-text-items.ensures.value ∙ c.in_ok-texts.ensures)
    c.loop-text-test.true

pub append-requires-else-hash-base : goal.append-requires-else-hash-base
append-requires-else-hash-base c =
    free_at c.args.bucket.now c.deref-text-items.result.now c.loop-text.text-index _ (ap (map now) c.deref-text-items.ensures.value ∙ c.in_ok-texts.ensures)
    c.loop-text-test.true

pub loop-text-preserved : goal.loop-text-preserved
loop-text-preserved c = elim c.if-hash-base.branch [
  | then-hash-base+in_ok-append w ↦
      rw w.halves-is (gone_too c.args.base c.args.count c.deref-text-items.result.now c.loop-text.text-index none _ _ _ c.loop-text.invariant
      c.loop-text-test.true
      (eq-eqb _ _ (ap (λ h. h % (2 * c.args.base)) (sym c.hash.ensures) ∙ w.if-hash-base.true)) w.in_ok-append.ensures.ok)
  | else-hash-base+in_ok-append-2 w ↦
      rw w.halves-is (stayed_too c.args.base c.args.count c.deref-text-items.result.now c.loop-text.text-index none _ _ _ c.loop-text.invariant
      c.loop-text-test.true
      (ne_eqb _ _ (λ same. w.if-hash-base.false (ap (λ h. h % (2 * c.args.base)) c.hash.ensures ∙ same))) w.in_ok-append-2.ensures.ok)
]

pub returns : goal.returns
returns c =
    subst (λ (l : List (List ℕ)). IsHalved c.args.base c.args.count l (texts_in c.loop-text.halves.stays.items) (texts_in c.loop-text.halves.goes.items))
    (ap (map now) (take_all c.loop-text.text-index c.deref-text-items.result.now c.loop-text-test.false ∙ c.deref-text-items.ensures.value)
    ∙ c.in_ok-texts.ensures) c.loop-text.invariant
