-- What a check keeps of its source and its log.
use Rattle.std.proofs.Common.{◌≡◌, ℕ, List, refl, sym, ap, ◌∙◌, subst}
use Rattle.std.specs.Prelude.{Bool, Option}
use Rattle.pt_check.specs.Shares.{unmet_behind}
use Rattle.pt_check.specs.Visits.{Keeps, check_state, found_by, meeting}
use Rattle.pt_tree.specs.Log.{Grows}
use Rattle.pt_check.specs.declared.checking.Check.{Check}
use Rattle.pt_check.specs.declared.numbers.Numbers.{Numbers}
use Rattle.pt_check.specs.declared.wants.Wants.{Wants}
use Rattle.pt_check.specs.declared.within.Within.{Within}
use Rattle.pt_name.specs.Share.{Portion}
use Rattle.pt_tree.proofs.Growing.{grows_none, grows_on}
use Rattle.pt_tree.specs.Listing.{Item}
use Rattle.pt_tree.specs.Path.{Path}
use Rattle.pt_tree.specs.Source.{tree_in}
use Rattle.pt_tree.specs.declared.log.Log.{Ghosts as OfLog}
use Rattle.pt_tree.specs.declared.source.Source.{Ghosts as OfSource}

-- and what is kept twice is kept
pub keeps_on : {S L E : Type 0} (source : OfSource S) (log : OfLog L) → ((a b c : S) → source.keeps a b → source.keeps b c → source.keeps a c)
    → ((a b c : L) → log.keeps a b → log.keeps b c → log.keeps a c) → (a b c : Check S L E) → Keeps source log a b → Keeps source log b c
    → Keeps source log a c
keeps_on source log source_on log_on a b c first second = record {
  tree = second.tree ∙ first.tree;
  source = source_on a.source b.source c.source first.source second.source;
  wants = second.wants ∙ first.wants;
  share = second.share ∙ first.share;
  log_stays = log_on a.log b.log c.log first.log_stays second.log_stays;
  log = grows_on (log.told a.log) (log.told b.log) (log.told c.log) first.log second.log;
}

-- where its numbers alone are changed, it is the same
pub counts_on : {S L E : Type 0} (source : OfSource S) (log : OfLog L) → ((a : S) → source.keeps a a) → ((a : L) → log.keeps a a)
    → (a b : Check S L E) → b.source ≡ a.source → b.log ≡ a.log → b.wants ≡ a.wants → b.share ≡ a.share → Keeps source log a b
counts_on {S} {L} source log source_kept log_kept a b source_is log_is wants share = record {
  tree = ap (λ (s : S). tree_in (source.told s)) source_is;
  source = subst (λ (s : S). source.keeps a.source s) (sym source_is) (source_kept a.source);
  wants = wants;
  share = share;
  log_stays = subst (λ (l : L). log.keeps a.log l) (sym log_is) (log_kept a.log);
  log = subst (λ (l : L). Grows (log.told a.log) (log.told l)) (sym log_is) (grows_none (log.told a.log));
}

-- where its source alone was called
pub sources_on : {S L E : Type 0} (source : OfSource S) (log : OfLog L) → ((a : L) → log.keeps a a) → (a : Check S L E) (now : S)
    → source.told now ≡ source.told a.source → source.keeps a.source now → Keeps source log a (record a { source = now })
sources_on source log log_kept a now same kept = record {
  tree = ap tree_in same;
  source = kept;
  wants = refl;
  share = refl;
  log_stays = log_kept a.log;
  log = grows_none (log.told a.log);
}

-- and where it began with other numbers
pub keeps_counted : {S L E : Type 0} (source : OfSource S) (log : OfLog L) → (a b : Check S L E) (n : Numbers)
    → Keeps source log (record a { numbers = n }) b → Keeps source log a b
keeps_counted source log a b n kept = record {
  tree = kept.tree;
  source = kept.source;
  wants = kept.wants;
  share = kept.share;
  log_stays = kept.log_stays;
  log = kept.log;
}

-- or what is unmet
pub meets_on : {S L E : Type 0} (source : OfSource S) (log : OfLog L) → ((a : S) → source.keeps a a) → ((a : L) → log.keeps a a)
    → (a b : Check S L E) (u : List (Option (List ℕ))) → b ≡ record a { unmet = u } → Keeps source log a b
meets_on {S} {L} {E} source log source_kept log_kept a b u is =
    counts_on source log source_kept log_kept a b (ap (λ (s : Check S L E). s.source) is) (ap (λ (s : Check S L E). s.log) is)
    (ap (λ (s : Check S L E). s.wants) is) (ap (λ (s : Check S L E). s.share) is)

-- and that is how far it is then, by what was found of a folder
pub met_by : {S L E : Type 0} (source : OfSource S) (log : OfLog L) (a b : Check S L E) (share over : Portion) (wants again : Wants) (at : Path × List ℕ)
    (here : Within) (whole : Bool) (items : List Item) → over ≡ share → again ≡ wants → b ≡ record a { unmet = b.unmet }
    → b.unmet ≡ unmet_behind over at (found_by whole again.form here items) a.unmet
    → check_state source log b ≡ meeting share at (found_by whole wants.form here items) (check_state source log a)
met_by {S} {L} {E} source log a b share over wants again at here whole items same_share same_wants rest is =
    let before = check_state source log a in
    ap (λ (s : Check S L E). check_state source log s) rest ∙ ap (λ (u : List (Option (List ℕ))). record before { unmet = u }) is
    ∙ ap (λ (s : Portion). meeting s at (found_by whole again.form here items) before) same_share
    ∙ ap (λ (w : Wants). meeting share at (found_by whole w.form here items) before) same_wants

-- as at the end of an object
pub ends_on : {S L E : Type 0} (source : OfSource S) (log : OfLog L) → ((a : S) → source.keeps a a) → ((a : L) → log.keeps a a)
    → (a b : Check S L E) (n : Numbers) → b ≡ record a { numbers = n } → Keeps source log a b
ends_on {S} {L} {E} source log source_kept log_kept a b n is =
    counts_on source log source_kept log_kept a b (ap (λ (s : Check S L E). s.source) is) (ap (λ (s : Check S L E). s.log) is)
    (ap (λ (s : Check S L E). s.wants) is) (ap (λ (s : Check S L E). s.share) is)

-- and that is how far it is then
pub recounted : {S L E : Type 0} (source : OfSource S) (log : OfLog L) (a b : Check S L E) (n : Numbers) → b ≡ record a { numbers = b.numbers } → b.numbers ≡ n
    → check_state source log b ≡ record (check_state source log a) { numbers = n }
recounted {S} {L} {E} source log a b n rest is =
    ap (λ (s : Check S L E). check_state source log s) rest ∙ ap (λ (m : Numbers). record (check_state source log a) { numbers = m }) is
