-- What several calls of a turn came to.
use Rattle.std.proofs.Common.{◌≡◌, ℕ, List, [], ◌∷◌, ◌++◌, Bool, true, false, refl, sym, ap, ◌∙◌, take, length, cond, arith}
use Rattle.std.proofs.lemmas.List.{take_all}
use Rattle.std.specs.Prelude.{Option, None, Some}
use Rattle.std.specs.Option.{option_map}
use Rattle.pt_state.proofs.Words.{
  MakeFile,
  Did,
  FailsPartway,
  FailsUnchanged,
  Adds,
  Answers,
  Asked,
  Calls,
  Change,
  Changes,
  Creates,
  Finds,
  Finishes,
  Lists,
  Looks,
  Makes,
  OfPiece,
  Opens,
  Puts,
  Reads,
  Untouched,
  DeviceStates,
  asks,
  dest_tree,
  does,
  no_calls,
  tree_in,
  Fault,
  Writing,
  after_create,
  Path,
  same_path,
  Reading,
  CanOpen,
  after_open,
  Bytes,
  Tree,
  Kind,
}
use Rattle.pt_object.specs.Script.{done}
use Rattle.pt_object.proofs.Ways.{path_itself}
use Rattle.pt_plan.specs.DeviceStates.{AreSeen, AsksNothing, LeavesPart, LooksAndLists, OfFile, OpensAndReads, WasRead, after_make}
use Rattle.pt_state.proofs.Words.fault
use Rattle.pt_tree.specs.Forest.{Forest}
use Rattle.pt_tree.specs.Listing.{Item as Entry}
use Rattle.pt_tree.specs.Dest.{CanWrite, added_to, after_append, after_finish}
use Rattle.pt_tree.specs.Source.{CanRead, after_next}
use Rattle.pt_tree.specs.Tree.{edited_by, put}

-- ---- a question leaves all as it was

pub opened : (p : Path) (o : Option Reading) → tree_in (option_map (after_open p) o) ≡ tree_in o
opened p None = refl
opened p (Some s) = refl

pub read_on : (o : Option Reading) → tree_in (option_map after_next o) ≡ tree_in o
read_on None = refl
read_on (Some s) = refl

-- no answer of the source changes its tree
pub asked_tree : (asked : Asked) (r r' : Option Reading) → Answers asked r r' → tree_in r' ≡ tree_in r
unfolding Answers
asked_tree AsksNothing r r' is = ap tree_in is
asked_tree (Looks seen) r r' is = ap tree_in is.1
asked_tree (Lists path entries) r r' is = ap tree_in is.2
asked_tree (LooksAndLists seen path entries) r r' is = ap tree_in is.3
asked_tree (Opens path) r r' is = ap tree_in is ∙ opened path r
asked_tree (Reads block) r r' is = ap tree_in is.1 ∙ read_on r
asked_tree (OpensAndReads path block) r r' is = ap tree_in is.1 ∙ read_on (option_map (after_open path) r) ∙ opened path r

-- then memory was short
pub asked_stays : (asked : Asked) (a b : DeviceStates) → Did (asks asked) a b → FailsUnchanged fault.Memory a b
unfolding Did FailsUnchanged Changes Puts
asked_stays asked a b did = (asked_tree asked _ _ did.0.source, did.0.dest, did.0.log, did.1, tt)

pub looked_stays : (p : Path) (here : Option Kind) (a b : DeviceStates) → Did (does (Finds p here)) a b → FailsUnchanged fault.Memory a b
unfolding Did FailsUnchanged Answers Changes Puts
looked_stays p here a b did = (ap tree_in did.0.source, did.0.dest.1, did.0.log, did.1, tt)

-- then a further call failed, and nothing was changed
stays_then : (f : Fault) (a b c : DeviceStates) → FailsUnchanged fault.Memory a b → FailsUnchanged f b c → FailsUnchanged f a c
unfolding FailsUnchanged
stays_then f a b c first next = (next.0 ∙ first.0, next.1 ∙ first.1, next.2 ∙ first.2, rw first.3 at next.3, next.4)

pub asked_then : (asked : Asked) (f : Fault) (a b c : DeviceStates) → Did (asks asked) a b → FailsUnchanged f b c → FailsUnchanged f a c
asked_then asked f a b c first next = stays_then f a b c (asked_stays asked a b first) next

pub looked_then : (p : Path) (here : Option Kind) (f : Fault) (a b c : DeviceStates) → Did (does (Finds p here)) a b → FailsUnchanged f b c
    → FailsUnchanged f a c
looked_then p here f a b c first next = stays_then f a b c (looked_stays p here a b first) next

-- a look leaves the very states
pub looked_same : (p : Path) (here : Option Kind) (a b : DeviceStates) → Did (does (Finds p here)) a b → b ≡ a
unfolding Did Answers Changes Puts
looked_same p here a b did = λ i. record { source = did.0.source i; dest = did.0.dest.1 i; log = did.0.log i; failures = did.1 i }

-- nothing was called
pub did_nothing : (w : DeviceStates) → Did no_calls w w
unfolding Did Answers Changes Puts
did_nothing w = (record { source = refl; dest = refl; log = refl }, refl)

-- ---- a question of the source, and then a change of the destination

abbrev pub asks_and : Asked → Change → Calls
asks_and asked change = record { asked = asked; change = change; line = None }

pub then_did : (asked : Asked) (change : Change) (a b c : DeviceStates) → Did (asks asked) a b → Did (does change) b c → Did (asks_and asked change) a c
unfolding Did Answers Changes Puts
then_did asked change a b c first next = (
  record {
    source = rw next.0.source first.0.source;
    dest = rw first.0.dest at next.0.dest;
    log = next.0.log ∙ first.0.log;
  },
  next.1 ∙ first.1,
)

-- the block that was asked for was the source's
was_read : (asked : Asked) (r r' : Option Reading) → Answers asked r r' → WasRead asked r
unfolding Answers
was_read AsksNothing r r' is = tt
was_read (Looks seen) r r' is = tt
was_read (Lists path entries) r r' is = tt
was_read (LooksAndLists seen path entries) r r' is = tt
was_read (Opens path) r r' is = tt
was_read (Reads block) r r' is = is.0
was_read (OpensAndReads path block) r r' is = tt

pub then_leaves : (asked : Asked) (change : Change) (f : Fault) (a b c : DeviceStates) → Did (asks asked) a b → FailsPartway (does change) f b c
    → FailsPartway (asks_and asked change) f a c
unfolding Did FailsPartway Changes Puts
then_leaves asked change f a b c first next = (
  record {
    read = was_read asked a.source b.source first.0.source;
    found = tt;
    source = next.0.source ∙ asked_tree asked a.source b.source first.0.source;
    dest = rw first.0.dest at next.0.dest;
    log = next.0.log ∙ first.0.log;
  },
  rw first.1 at next.1,
  next.2,
)

-- a call that changes nothing failed: nothing is left of the change
pub leaves_none : (change : Change) (f : Fault) (a b : DeviceStates) → FailsUnchanged f a b → FailsPartway (does change) f a b
unfolding FailsUnchanged FailsPartway
leaves_none change f a b stays = (
  record { read = tt; found = tt; source = stays.0; dest = Untouched change (ap dest_tree stays.1); log = stays.2 },
  stays.3,
  stays.4,
)

-- memory was short before anything was called
pub leaves_short : (change : Change) (why : Fault) (w : DeviceStates) → why ≡ fault.Memory → FailsPartway (does change) why w w
unfolding FailsUnchanged
leaves_short change why w is = leaves_none change why w w (rw is (refl, refl, refl, refl, tt))

-- ---- looks at the source, and a listing behind them

both_seen : (tree : Option Forest) (seen more : List (Path × Option Kind)) → AreSeen tree seen → AreSeen tree more → AreSeen tree (seen ++ more)
both_seen tree [] more first next = next
both_seen tree (look ∷ seen) more first next = (first.0, both_seen tree seen more first.1 next)

pub looks_on : (seen more : List (Path × Option Kind)) (a b c : DeviceStates) → Did (asks (Looks seen)) a b → Did (asks (Looks more)) b c
    → Did (asks (Looks (seen ++ more))) a c
unfolding Did Answers Changes Puts
looks_on seen more a b c first next = (
  record {
    source = (both_seen (tree_in a.source) seen more first.0.source.0 (rw first.0.source.1 at next.0.source.0), next.0.source.1 ∙ first.0.source.1);
    dest = next.0.dest ∙ first.0.dest;
    log = next.0.log ∙ first.0.log;
  },
  next.1 ∙ first.1,
)

pub looks_and_lists : (seen : List (Path × Option Kind)) (path : Path) (entries : List Entry) (a b c : DeviceStates) → Did (asks (Looks seen)) a b
    → Did (asks (Lists path entries)) b c
    → Did (asks (LooksAndLists seen path entries)) a c
unfolding Did Answers Changes Puts
looks_and_lists seen path entries a b c first next = (
  record {
    source = (first.0.source.0, rw first.0.source.1 at next.0.source.0, next.0.source.1, next.0.source.2 ∙ first.0.source.1);
    dest = next.0.dest ∙ first.0.dest;
    log = next.0.log ∙ first.0.log;
  },
  next.1 ∙ first.1,
)

-- ---- files of the source

some_mapped : {A B : Type 0} (f : A → B) (o : Option A) (y : B) → Some y ≡ option_map f o → (x : A) × ((o ≡ Some x) × (y ≡ f x))
some_mapped f None y is = absurd (cc)
some_mapped f (Some x) y is = (x, (refl, cc))

pub can_read_opened : (a b : DeviceStates) (p : Path) → CanOpen a.source p → Did (asks (Opens p)) a b → CanRead b.source
unfolding CanOpen CanRead Did Answers
can_read_opened a b p can did = λ s e. let from = some_mapped (after_open p) a.source s (sym e ∙ did.0.source) in rw from.1.1 (can from.0 from.1.0)

pub opens_and_reads : (a b c : DeviceStates) (p : Path) (block : List ℕ) → Did (asks (Opens p)) a b → Did (asks (Reads block)) b c
    → Did (asks (OpensAndReads p block)) a c
unfolding Did Answers Changes Puts
opens_and_reads a b c p block first next = (
  record {
    source = (rw first.0.source at next.0.source.0, next.0.source.1 ∙ ap (option_map after_next) first.0.source);
    dest = next.0.dest ∙ first.0.dest;
    log = next.0.log ∙ first.0.log;
  },
  next.1 ∙ first.1,
)

-- ---- files of the destination

-- an empty file with a piece added is the file with the piece
filled : (t : Tree) (p : Path) (bytes : List ℕ) → added_to (put t p (Bytes [])) (Some p) bytes ≡ put t p (Bytes bytes)
filled t p bytes = λ i q. by q (same_path q p) i
  where
    there : edited_by (λ old. old ++ bytes) (put t p (Bytes []) p) ≡ Some (Bytes bytes)
    there = ap (λ b. edited_by (λ old. old ++ bytes) (cond b (Some (Bytes [])) (t p))) (path_itself p)

    by : (q : Path) (b : Bool) → cond b (edited_by (λ old. old ++ bytes) (put t p (Bytes []) p)) (cond b (Some (Bytes [])) (t q))
        ≡ cond b (Some (Bytes bytes)) (t q)
    by q true = there
    by q false = refl

made_file : (o : Option Writing) (p : Path) (bytes : List ℕ) → option_map after_finish (option_map (after_append bytes) (option_map (after_create p) o))
    ≡ option_map (after_make (MakeFile p bytes)) o
made_file None p bytes = refl
made_file (Some s) p bytes = ap (λ (t : Tree). Some (record { tree = t; writing = None })) (filled s.tree p bytes)

part_file : (o : Option Writing) (p : Path) (bytes : List ℕ) → dest_tree (option_map (after_append bytes) (option_map (after_create p) o))
    ≡ option_map (done (MakeFile p bytes)) (dest_tree o)
part_file None p bytes = refl
part_file (Some s) p bytes = ap (λ (t : Tree). Some t) (filled s.tree p bytes)

pub none_of_file : (o : Option Writing) (p : Path) → dest_tree (option_map (after_create p) o) ≡ option_map (λ t. put t p (Bytes [])) (dest_tree o)
none_of_file None p = refl
none_of_file (Some s) p = refl

pub can_write_created : (a b : DeviceStates) (p : Path) → Did (does (Creates p)) a b → CanWrite b.dest
unfolding CanWrite Did Changes
can_write_created a b p did = λ s e. let from = some_mapped (after_create p) a.dest s (sym e ∙ did.0.dest) in rw from.1.1 refl

pub can_write_added : (a b : DeviceStates) (piece : List ℕ) → CanWrite a.dest → Did (does (Adds piece)) a b → CanWrite b.dest
unfolding CanWrite Did Changes
can_write_added a b piece can did = λ s e. let from = some_mapped (after_append piece) a.dest s (sym e ∙ did.0.dest) in rw from.1.1 (can from.0 from.1.0)

pub can_write_asked : (asked : Asked) (a b : DeviceStates) → CanWrite a.dest → Did (asks asked) a b → CanWrite b.dest
unfolding Did Changes
can_write_asked asked a b can did = rw did.0.dest can

pub makes_file : (a b c d : DeviceStates) (p : Path) (bytes : List ℕ) → Did (does (Creates p)) a b → Did (does (Adds bytes)) b c → Did (does Finishes) c d
    → Did (does (Makes (MakeFile p bytes))) a d
unfolding Did Answers Changes Puts
makes_file a b c d p bytes first next last = (
  record {
    source = last.0.source ∙ next.0.source ∙ first.0.source;
    dest = last.0.dest ∙ ap (option_map after_finish) (next.0.dest ∙ ap (option_map (after_append bytes)) first.0.dest) ∙ made_file a.dest p bytes;
    log = last.0.log ∙ next.0.log ∙ first.0.log;
  },
  last.1 ∙ next.1 ∙ first.1,
)

keeps_file : (a b c : Option Writing) (p : Path) (bytes : List ℕ) (part : Change) → part ≡ Adds bytes → b ≡ option_map (after_create p) a → LeavesPart b c part
    → LeavesPart a c (Makes (MakeFile p bytes))
keeps_file a b c p bytes part is first (Untouched change same) = OfFile p bytes 0 (same ∙ ap dest_tree first ∙ none_of_file a p)
keeps_file a b c p bytes part is first (OfPiece piece count same) =
    let it : piece ≡ bytes = cc in
    OfFile p bytes count (ap dest_tree (same ∙ ap (option_map (after_append (take count piece))) first) ∙ part_file a p (take count piece)
    ∙ ap (λ (l : List ℕ). option_map (done (MakeFile p (take count l))) (dest_tree a)) it)
keeps_file _ _ _ _ _ _ is _ _ = absurd (cc)

pub leaves_of_append : (a b c : DeviceStates) (p : Path) (bytes : List ℕ) (f : Fault) → Did (does (Creates p)) a b → FailsPartway (does (Adds bytes)) f b c
    → FailsPartway (does (Makes (MakeFile p bytes))) f a c
unfolding Did FailsPartway Answers Changes Puts
leaves_of_append a b c p bytes f first next = (
  record {
    read = tt;
    found = tt;
    source = next.0.source ∙ ap tree_in first.0.source;
    dest = keeps_file a.dest b.dest c.dest p bytes (Adds bytes) refl first.0.dest next.0.dest;
    log = next.0.log ∙ first.0.log;
  },
  rw first.1 at next.1,
  next.2,
)

pub leaves_unfinished : (a b c d : DeviceStates) (p : Path) (bytes : List ℕ) (f : Fault) → Did (does (Creates p)) a b → Did (does (Adds bytes)) b c
    → FailsUnchanged f c d → FailsPartway (does (Makes (MakeFile p bytes))) f a d
unfolding Did FailsUnchanged FailsPartway Answers Changes Puts
leaves_unfinished a b c d p bytes f first next last =
    let whole : take (length bytes) bytes ≡ bytes = take_all (length bytes) bytes (omega arith) in (
      record {
        read = tt;
        found = tt;
        source = last.0 ∙ ap tree_in (next.0.source ∙ first.0.source);
        dest = OfFile p bytes (length bytes) (ap dest_tree (last.1 ∙ next.0.dest ∙ ap (option_map (after_append bytes)) first.0.dest) ∙ part_file a.dest p bytes
            ∙ ap (λ (l : List ℕ). option_map (done (MakeFile p l)) (dest_tree a.dest)) (sym whole));
        log = last.2 ∙ next.0.log ∙ first.0.log;
      },
      rw (next.1 ∙ first.1) at last.3,
      last.4,
    )

pub ruleset together = (
  can_read_opened,
  opens_and_reads,
  asked_then,
  can_write_created,
  can_write_added,
  makes_file,
  leaves_none,
  leaves_of_append,
  leaves_unfinished,
)
