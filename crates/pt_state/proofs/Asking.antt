-- What a call of the devices came to in their states, from what the device promises.
use Rattle.std.proofs.Common.{◌≡◌, ℕ, List, [], ◌∷◌, refl, sym, subst, ap, add-zero, arith}
use Rattle.std.specs.Prelude.{Option, Some, Err, IsTrue, IsSome}
use Rattle.std.specs.Io.KnownBytes.{Appends}
use Rattle.std.specs.Option.{option_map}
use Rattle.pt_state.proofs.Words.{
  MakeFolder,
  Line,
  line_text,
  Did,
  HasFailed,
  FailsPartway,
  FailsUnchanged,
  Adds,
  Answers,
  Asked,
  Change,
  Changes,
  Creates,
  Failures,
  Finds,
  Finishes,
  Lists,
  Looks,
  Makes,
  OfPiece,
  Opens,
  Puts,
  Reads,
  Renames,
  Untouched,
  asks,
  does,
  tree_in,
  tells,
  Fault,
  Writing,
  IsKindAt,
  after_create,
  AppendsFront,
  Path,
  Reading,
  after_open,
  Bytes,
  kind_of_entry,
  Kind,
}
use Rattle.pt_plan.specs.RunFaults.{dest_fault, log_fault, source_fault}
use Rattle.pt_plan.specs.Turn.{IsNotOfLog}
use Rattle.pt_plan.specs.DeviceStates.{Peeks}
use Rattle.pt_tree.specs.Dest.{CanPeek, IsPeeked, LeavesPart, after_append, after_finish, after_mkdir, after_rename}
use Rattle.pt_tree.specs.Failures.{AreAsManyCalls, IsCounted, IsOneMoreCall}
use Rattle.pt_tree.specs.Listing.{Item as Entry, names_rise}
use Rattle.pt_tree.specs.Source.{IsListed, IsRead, IsSeen, after_next}
use Rattle.pt_tree.specs.Tree.{Entry as TreeEntry, bytes_of}
use Rattle.pt_tree.specs.declared.faults.TreeFault.{TreeFault}
use Rattle.pt_tree.specs.declared.faults.TreeFault.TheVariants as tree
use Rattle.pt_state.proofs.Words.kind
use Rattle.pt_state.specs.Counting.{AtMostCalls, calls_none}
use Rattle.pt_state.specs.Outside.{states}

abbrev failures : ℕ → ℕ → ℕ → Failures
failures source dest log = record { source = source; dest = dest; log = log }

-- ---- calls are counted

pub one_more : (a b : ℕ → Type 0) → IsOneMoreCall a b → AtMostCalls 1 a b
unfolding AtMostCalls
one_more a b call = λ n h. (1, (omega arith, call n h))

pub no_more : (a b : ℕ → Type 0) → AreAsManyCalls a b → AtMostCalls 0 a b
unfolding AtMostCalls
no_more a b call = λ n h. (0, (omega arith, subst b (sym (add-zero n)) (call n h)))

pub ruleset counting = (calls_none, one_more, no_more)

-- ---- the source

module _ (r r' : Option Reading) (w : Option Writing) (g : Option (List ℕ)) (n n' d l : ℕ) where
  answers : (asked : Asked) → Answers asked r r' → n' ≡ n → Did (asks asked) (states r w g n d l) (states r' w g n' d l)
  unfolding Did Changes Puts
  answers asked is count = (record { source = is; dest = refl; log = refl }, ap (λ (k : ℕ). failures k d l) count)

  pub did_list : (p : Path) (entries : List Entry) → IsListed r p entries → IsTrue (names_rise entries) → r' ≡ r → n' ≡ n
      → Did (asks (Lists p entries)) (states r w g n d l) (states r' w g n' d l)
  unfolding Answers
  did_list p entries is rise same count = answers (Lists p entries) (is, rise, same) count

  pub did_look : (p : Path) (here : Option Kind) → IsSeen (tree_in r) p here → r' ≡ r → n' ≡ n
      → Did (asks (Looks ((p, here) ∷ []))) (states r w g n d l) (states r' w g n' d l)
  unfolding Answers
  did_look p here is same count = answers (Looks ((p, here) ∷ [])) ((is, tt), same) count

  pub did_open : (p : Path) → r' ≡ option_map (after_open p) r → n' ≡ n → Did (asks (Opens p)) (states r w g n d l) (states r' w g n' d l)
  unfolding Answers
  did_open p = answers (Opens p)

  pub did_next : (block : List ℕ) → IsRead r block → r' ≡ option_map after_next r → n' ≡ n
      → Did (asks (Reads block)) (states r w g n d l) (states r' w g n' d l)
  unfolding Answers
  did_next block read is count = answers (Reads block) (read, is) count

  source_counted : (f : TreeFault) → IsCounted {T = Unit {0}} n n' (Err f) → HasFailed (source_fault f) (failures n d l) (failures n' d l)
  source_counted tree.Device is = (is, refl, refl)
  source_counted tree.Memory is = ap (λ (k : ℕ). failures k d l) is

  source_not_log : (f : TreeFault) → IsNotOfLog (source_fault f)
  source_not_log tree.Device = tt
  source_not_log tree.Memory = tt

  pub stays_source : (f : TreeFault) (h : Fault) → h ≡ source_fault f → r' ≡ r → IsCounted {T = Unit {0}} n n' (Err f)
      → FailsUnchanged h (states r w g n d l) (states r' w g n' d l)
  unfolding FailsUnchanged
  stays_source f h is same count = (ap tree_in same, refl, refl, rw is (source_counted f count), subst IsNotOfLog (sym is) (source_not_log f))

-- ---- the destination

-- where it may be peeked into a file is there
file_there : (w : Option Writing) (p : Path) → CanPeek w p → IsKindAt w p (Some kind.File)
unfolding CanPeek IsKindAt
file_there w p can = λ s is. by (s.tree p) (can s is)
  where
    by : (o : Option TreeEntry) → IsSome (bytes_of o) → option_map kind_of_entry o ≡ Some kind.File
    by (Some (Bytes bytes)) is = refl
    by _ is = absurd (cc)

module _ (r : Option Reading) (w w' : Option Writing) (g : Option (List ℕ)) (n d d' l : ℕ) where
  changes : (change : Change) → Changes change w w' → d' ≡ d → Did (does change) (states r w g n d l) (states r w' g n d' l)
  unfolding Did Answers Puts
  changes change is count = (record { source = refl; dest = is; log = refl }, ap (λ (k : ℕ). failures n k l) count)

  pub did_kind : (p : Path) (here : Option Kind) → IsKindAt w p here → w' ≡ w → d' ≡ d → Did (does (Finds p here)) (states r w g n d l) (states r w' g n d' l)
  unfolding Changes
  did_kind p here is same count = changes (Finds p here) (is, same) count

  pub did_peek : (p : Path) (block : List ℕ) → CanPeek w p → IsPeeked w p block → w' ≡ w → d' ≡ d
      → Did (does (Peeks p block)) (states r w g n d l) (states r w' g n d' l)
  unfolding Changes
  did_peek p block can is same count = changes (Peeks p block) (file_there w p can, is, same) count

  pub did_mkdir : (p : Path) → w' ≡ option_map (after_mkdir p) w → d' ≡ d → Did (does (Makes (MakeFolder p))) (states r w g n d l) (states r w' g n d' l)
  unfolding Changes
  did_mkdir p = changes (Makes (MakeFolder p))

  pub did_create : (p : Path) → w' ≡ option_map (after_create p) w → d' ≡ d → Did (does (Creates p)) (states r w g n d l) (states r w' g n d' l)
  unfolding Changes
  did_create p = changes (Creates p)

  pub did_append : (piece : List ℕ) → w' ≡ option_map (after_append piece) w → d' ≡ d → Did (does (Adds piece)) (states r w g n d l) (states r w' g n d' l)
  unfolding Changes
  did_append piece = changes (Adds piece)

  pub did_finish : w' ≡ option_map after_finish w → d' ≡ d → Did (does Finishes) (states r w g n d l) (states r w' g n d' l)
  unfolding Changes
  did_finish = changes Finishes

  pub did_rename : (p q : Path) → w' ≡ option_map (after_rename p q) w → d' ≡ d → Did (does (Renames p q)) (states r w g n d l) (states r w' g n d' l)
  unfolding Changes
  did_rename p q = changes (Renames p q)

  dest_counted : (f : TreeFault) → IsCounted {T = Unit {0}} d d' (Err f) → HasFailed (dest_fault f) (failures n d l) (failures n d' l)
  dest_counted tree.Device is = (refl, is, refl)
  dest_counted tree.Memory is = ap (λ (k : ℕ). failures n k l) is

  dest_not_log : (f : TreeFault) → IsNotOfLog (dest_fault f)
  dest_not_log tree.Device = tt
  dest_not_log tree.Memory = tt

  pub stays_dest : (f : TreeFault) (h : Fault) → h ≡ dest_fault f → w' ≡ w → IsCounted {T = Unit {0}} d d' (Err f)
      → FailsUnchanged h (states r w g n d l) (states r w' g n d' l)
  unfolding FailsUnchanged
  stays_dest f h is same count = (refl, same, refl, rw is (dest_counted f count), subst IsNotOfLog (sym is) (dest_not_log f))

  pub leaves_piece : (piece : List ℕ) (f : TreeFault) (h : Fault) → h ≡ dest_fault f → LeavesPart w w' piece → IsCounted {T = Unit {0}} d d' (Err f)
      → FailsPartway (does (Adds piece)) h (states r w g n d l) (states r w' g n d' l)
  unfolding FailsPartway
  leaves_piece piece f h is left count = (
    record { read = tt; found = tt; source = refl; dest = OfPiece piece left.count left.left; log = refl },
    rw is (dest_counted f count),
    subst IsNotOfLog
        (sym is) (dest_not_log f),
  )

-- ---- the log

module _ (r : Option Reading) (w : Option Writing) (g g' : Option (List ℕ)) (n d l l' : ℕ) where
  pub did_put : (line : Line) (text : List ℕ) → text ≡ line_text line → Appends g g' text → l' ≡ l
      → Did (tells line) (states r w g n d l) (states r w g' n d l')
  unfolding Did Answers Changes Puts
  did_put line text is put count = (record { source = refl; dest = refl; log = rw is at put }, ap (λ (k : ℕ). failures n d k) count)

  log_counted : (f : TreeFault) → IsCounted {T = Unit {0}} l l' (Err f) → HasFailed (log_fault f) (failures n d l) (failures n d l')
  log_counted tree.Device is = (refl, refl, is)
  log_counted tree.Memory is = ap (λ (k : ℕ). failures n d k) is

  pub leaves_front : (line : Line) (text : List ℕ) (f : TreeFault) (h : Fault) → text ≡ line_text line → h ≡ log_fault f → AppendsFront g g' text
      → IsCounted {T = Unit {0}} l l' (Err f) → FailsPartway (tells line) h (states r w g n d l) (states r w g' n d l')
  unfolding FailsPartway
  leaves_front line text f h is why front count =
      (record { read = tt; found = tt; source = refl; dest = Untouched _ refl; log = rw is at front }, rw why (log_counted f count), tt)

pub ruleset answering = (
  did_list,
  did_look,
  did_open,
  did_next,
  stays_source,
  did_kind,
  did_peek,
  did_mkdir,
  did_create,
  did_append,
  did_finish,
  did_rename,
  stays_dest,
  leaves_piece,
  did_put,
  leaves_front,
)
