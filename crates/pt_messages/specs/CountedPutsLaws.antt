-- What counts the lines of a log as it is called counts on: what the ghost members of `CountedLog` cite.
use Rattle.std.proofs.Common.{◌≡◌, ◌∙◌, ◌++◌, Bool, List, [], ◌∷◌, ℕ, ap, cond, false, refl, true}
use Rattle.std.specs.Prelude.{Option, Result}
use Rattle.pt_messages.specs.CountedPuts.{CountsPieces, Put, TakesPiece, TakesPieces, after_put, counts_after}
use Rattle.pt_messages.specs.declared.counted.CountedLog.{CountedLog}
use Rattle.pt_messages.specs.declared.counted.LineCounts.{LineCounts}
use Rattle.pt_tree.specs.declared.faults.TreeFault.{TreeFault}

counts_further : (ps qs : List Put) (counts : LineCounts) → counts_after qs (counts_after ps counts) ≡ counts_after (ps ++ qs) counts
counts_further [] qs counts = refl
counts_further (p ∷ ps) qs counts = counts_further ps qs (after_put p counts)

-- where nothing was put, counting or not, they are the same
pub same_counts : (counting : Bool) (counts : LineCounts) → counts ≡ cond counting counts counts
same_counts true counts = refl
same_counts false counts = refl

both_counts : (counting : Bool) (ps qs : List Put) (a : LineCounts)
    → cond counting (counts_after qs (cond counting (counts_after ps a) a)) (cond counting (counts_after ps a) a) ≡ cond counting (counts_after (ps ++ qs) a) a
both_counts true ps qs a = counts_further ps qs a
both_counts false ps qs a = refl

module _ {L : Type 0} (told : L → Option (List ℕ)) (failed : L → ℕ) (keeps : L → L → Type 0) where
  takes_further : (ps qs : List Put) (a b c : L) → TakesPieces told failed keeps ps a b → TakesPieces told failed keeps qs b c
      → TakesPieces told failed keeps (ps ++ qs) a c
  takes_further [] qs a b c same takes = rw same at takes
  takes_further (p ∷ ps) qs a b c (mid, first, more) takes = (mid, first, takes_further ps qs mid b c more takes)

  -- it is itself
  pub none_counted : (a : CountedLog L) → CountsPieces told failed keeps a a
  none_counted a = ([], refl, refl, same_counts a.counting a.counts)

  -- and it counts on
  pub counts_on : (a b c : CountedLog L) → CountsPieces told failed keeps a b → CountsPieces told failed keeps b c → CountsPieces told failed keeps a c
  counts_on a b c (ps, first, still, are) (qs, then, still', are') = (
    ps ++ qs,
    takes_further ps qs a.log b.log c.log first then,
    still' ∙ still,
    are' ∙ ap (λ (counting : Bool). cond counting (counts_after qs b.counts) b.counts) still
        ∙ ap (λ (counts : LineCounts). cond a.counting (counts_after qs counts) counts) are ∙ both_counts a.counting ps qs a.counts,
  )

  -- one call more
  pub one_put : (piece : List ℕ) (answer : Result (Unit {0}) TreeFault) (a b : CountedLog L) → TakesPiece told failed keeps (piece, answer) a.log b.log
      → b.counting ≡ a.counting → b.counts ≡ cond a.counting (after_put (piece, answer) a.counts) a.counts → CountsPieces told failed keeps a b
  one_put piece answer a b takes still are = ((piece, answer) ∷ [], (b.log, takes, refl), still, are)
