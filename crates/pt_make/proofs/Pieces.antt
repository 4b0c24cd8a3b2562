-- A file of the destination that is written piece by piece.
use Rattle.std.proofs.Common.{◌≡◌, ℕ, List, [], ◌++◌, true, false, Bool, cond, refl, sym, ap, ◌∙◌, append_assoc, drop, length, take}
use Rattle.std.proofs.Math.Seq.{take-append_seam}
use Rattle.std.proofs.lemmas.List.{append-nil, take-append-drop}
use Rattle.std.specs.Option.{option_map}
use Rattle.std.specs.Prelude.{Err, IfErr, IsErrAnd, None, Ok, Option, Result, Some}
use Rattle.pt_object.proofs.Ways.{path_itself}
use Rattle.pt_object.specs.InPieces.{InPieces, TakesPiece}
use Rattle.pt_object.specs.Script.{done}
use Rattle.pt_plan.specs.DeviceStates.{LeavesPart, OfFile, after_make}
use Rattle.pt_state.proofs.Words.{
  Adds,
  Answers,
  Bytes,
  Change,
  Changes,
  Creates,
  Did,
  Fault,
  Finishes,
  HasBeenFed,
  Hasher,
  Algorithm,
  FailsPartway,
  MakeFile,
  Makes,
  OfPiece,
  Path,
  Puts,
  FailsUnchanged,
  Tree,
  Untouched,
  DeviceStates,
  Writing,
  dest_tree,
  does,
  same_path,
  tree_in,
}
use Rattle.pt_state.proofs.Words.fault
use Rattle.pt_tree.specs.Dest.{CanWrite, added_to, after_append, after_finish}
use Rattle.pt_tree.specs.Tree.{edited_by, put}
use Rattle.pt_make.specs.Making.{HasFedAt, IsFedMore, makes_file}
use Rattle.pt_make.specs.declared.inventories.InventoryFolder.{InventoryFolder}
use Rattle.pt_make.specs.declared.inventories.InventoryFolder.TheVariants as folder

-- ---- the open file

-- the file at the path holds these bytes and is open
abbrev pub writing_at : Path → List ℕ → Writing → Writing
writing_at p given s = record { tree = put s.tree p (Bytes given); writing = Some p }

-- a piece more is added to what it holds
holds_more : (t : Tree) (p : Path) (given piece : List ℕ) → added_to (put t p (Bytes given)) (Some p) piece ≡ put t p (Bytes (given ++ piece))
holds_more t p given piece = λ i q. by q (same_path q p) i
  where
    there : edited_by (λ old. old ++ piece) (put t p (Bytes given) p) ≡ Some (Bytes (given ++ piece))
    there = ap (λ b. edited_by (λ old. old ++ piece) (cond b (Some (Bytes given)) (t p))) (path_itself p)

    by : (q : Path) (b : Bool) → cond b (edited_by (λ old. old ++ piece) (put t p (Bytes given) p)) (cond b (Some (Bytes given)) (t q))
        ≡ cond b (Some (Bytes (given ++ piece))) (t q)
    by q true = there
    by q false = refl

added_at : (o : Option Writing) (p : Path) (given piece : List ℕ) → option_map (after_append piece) (option_map (writing_at p given) o)
    ≡ option_map (writing_at p (given ++ piece)) o
added_at None p given piece = refl
added_at (Some s) p given piece = ap (λ (t : Tree). Some (record { tree = t; writing = Some p })) (holds_more s.tree p given piece)

tree_at : (o : Option Writing) (p : Path) (given : List ℕ) → dest_tree (option_map (writing_at p given) o) ≡ option_map (done (MakeFile p given)) (dest_tree o)
tree_at None p given = refl
tree_at (Some s) p given = refl

finished_at : (o : Option Writing) (p : Path) (given : List ℕ) → option_map after_finish (option_map (writing_at p given) o)
    ≡ option_map (after_make (MakeFile p given)) o
finished_at None p given = refl
finished_at (Some s) p given = refl

can_write_at : (o : Option Writing) (p : Path) (given : List ℕ) → CanWrite (option_map (writing_at p given) o)
unfolding CanWrite
can_write_at None p given = λ s e. absurd (cc)
can_write_at (Some w) p given = λ s e. let it : s ≡ writing_at p given w = cc in rw it refl

-- a file was made at the path and holds this front of the text, behind which this is left; the hasher was fed the front
pub record HasPut (p : Path) (text rest : List ℕ) (h h' : Option Hasher) (old new : DeviceStates) : Type 0 where
  pub given : List ℕ
  pub whole : text ≡ given ++ rest
  pub source : new.source ≡ old.source
  pub dest : new.dest ≡ option_map (writing_at p given) old.dest
  pub log : new.log ≡ old.log
  pub failures : new.failures ≡ old.failures
  pub fed : IsFedMore h h' given

-- ---- hashers

pub started_at : (here : InventoryFolder) (a : Algorithm) (h : Hasher) → here ≡ folder.Version → HasBeenFed a h [] → HasFedAt here a (Some h) []
unfolding HasFedAt
started_at here a h is started = rw is started

pub none_at : (here : InventoryFolder) (a : Algorithm) → here ≡ folder.Top → HasFedAt here a None []
unfolding HasFedAt
none_at here a is = rw is tt

-- nothing is fed
fed_nothing : (h : Option Hasher) → IsFedMore h h []
unfolding IsFedMore
fed_nothing h = λ here algorithm fed was. rw append-nil was

fed_both : (h h' h'' : Option Hasher) (xs ys : List ℕ) → IsFedMore h h' xs → IsFedMore h' h'' ys → IsFedMore h h'' (xs ++ ys)
unfolding IsFedMore
fed_both h h' h'' xs ys first next = λ here algorithm fed was. rw (← append_assoc) (next here algorithm (fed ++ xs) (first here algorithm fed was))

pub fed_one : (h h' : Hasher) (bytes : List ℕ) → ((algorithm : Algorithm) (fed : List ℕ) → HasBeenFed algorithm h fed → HasBeenFed algorithm h' (fed ++ bytes))
    → IsFedMore (Some h) (Some h') bytes
unfolding IsFedMore HasFedAt
fed_one h h' bytes feeds = λ here algorithm fed was. by here algorithm fed was
  where
    by : (here : InventoryFolder) (algorithm : Algorithm) (fed : List ℕ) → HasFedAt here algorithm (Some h) fed
        → HasFedAt here algorithm (Some h') (fed ++ bytes)
    by folder.Version algorithm fed was = feeds algorithm fed was
    by folder.Top algorithm fed was = was

pub fed_none : (bytes : List ℕ) → IsFedMore None None bytes
unfolding IsFedMore HasFedAt
fed_none bytes = λ here algorithm fed was. by here algorithm fed was
  where
    by : (here : InventoryFolder) (algorithm : Algorithm) (fed : List ℕ) → HasFedAt here algorithm None fed → HasFedAt here algorithm None (fed ++ bytes)
    by folder.Version algorithm fed was = was
    by folder.Top algorithm fed was = tt

-- ---- the pieces

pub begun : (p : Path) (text : List ℕ) (h : Option Hasher) (a b : DeviceStates) → Did (does (Creates p)) a b → HasPut p text text h h a b
unfolding Did Answers Changes Puts
begun p text h a b did = record {
  given = [];
  whole = refl;
  source = did.0.source;
  dest = did.0.dest;
  log = did.0.log;
  failures = did.1;
  fed = fed_nothing h;
}

pub one_more_piece : (p : Path) (text rest piece rest' : List ℕ) (h h' h'' : Option Hasher) (a b c : DeviceStates) → HasPut p text rest h h' a b
    → rest ≡ piece ++ rest' → Did (does (Adds piece)) b c → IsFedMore h' h'' piece → HasPut p text rest' h h'' a c
unfolding Did Answers Changes Puts
one_more_piece p text rest piece rest' h h' h'' a b c put is did fed = record {
  given = put.given ++ piece;
  whole = put.whole ∙ ap (λ (l : List ℕ). put.given ++ l) is ∙ sym (append_assoc put.given piece rest');
  source = did.0.source ∙ put.source;
  dest = did.0.dest ∙ ap (option_map (after_append piece)) put.dest ∙ added_at a.dest p put.given piece;
  log = did.0.log ∙ put.log;
  failures = did.1 ∙ put.failures;
  fed = fed_both h h' h'' put.given piece put.fed fed;
}

-- one more piece is taken from what is left
pub taken : (is_made : Bool) (t t' : InPieces) → is_made ≡ true → TakesPiece is_made t t' → t.rest ≡ t'.piece ++ t'.rest
taken true t t' is takes = takes.0
taken false t t' is takes = absurd (cc)

pub none_taken : (is_made : Bool) (t t' : InPieces) → is_made ≡ false → TakesPiece is_made t t' → t.rest ≡ []
none_taken true t t' is takes = absurd (cc)
none_taken false t t' is takes = takes.0

pub can_write_on : (p : Path) (text rest : List ℕ) (h h' : Option Hasher) (a b : DeviceStates) → HasPut p text rest h h' a b → CanWrite b.dest
can_write_on p text rest h h' a b put = rw put.dest (can_write_at a.dest p put.given)

-- ---- how it ends

-- it answers this
pub answers_with : {T : Type 0} (result : Result T Fault) (f : Fault) (P : Fault → Type 0) → IsErrAnd result (λ h. h ≡ f) → P f → IfErr result P
answers_with (Ok x) f P is here = tt
answers_with (Err h) f P is here = rw is here

-- nothing is left: it is the whole text
all_given : (text given rest : List ℕ) → text ≡ given ++ rest → rest ≡ [] → given ≡ text
all_given text given rest whole none = sym (whole ∙ ap (λ (l : List ℕ). given ++ l) none ∙ append-nil given)

pub all_put : (p : Path) (text rest : List ℕ) (h h' : Option Hasher) (a b c : DeviceStates) → HasPut p text rest h h' a b → rest ≡ [] → Did (does Finishes) b c
    → Did (makes_file p text) a c
unfolding Did Answers Changes Puts
all_put p text rest h h' a b c put none did = (
  record {
    source = did.0.source ∙ put.source;
    dest = did.0.dest ∙ ap (option_map after_finish) put.dest ∙ finished_at a.dest p put.given
        ∙ ap (λ (l : List ℕ). option_map (after_make (MakeFile p l)) a.dest) (all_given text put.given rest put.whole none);
    log = did.0.log ∙ put.log;
  },
  did.1 ∙ put.failures,
)

pub all_fed : (p : Path) (text rest : List ℕ) (h h' : Option Hasher) (a b : DeviceStates) → HasPut p text rest h h' a b → rest ≡ [] → IsFedMore h h' text
all_fed p text rest h h' a b put none = rw (← all_given text put.given rest put.whole none) put.fed

-- a front of the text is there
front_left : (o o' : Option Writing) (p : Path) (text front more : List ℕ) → text ≡ front ++ more
    → dest_tree o' ≡ option_map (done (MakeFile p front)) (dest_tree o) → LeavesPart o o' (Makes (MakeFile p text))
front_left o o' p text front more whole is =
    OfFile p text (length front) (is ∙ ap (λ (l : List ℕ). option_map (done (MakeFile p l)) (dest_tree o))
    (sym (ap (take (length front)) whole ∙ take-append_seam front more)))

-- a call that changes nothing failed
pub stopped : (p : Path) (text rest : List ℕ) (h h' : Option Hasher) (a b c : DeviceStates) (f : Fault) → HasPut p text rest h h' a b → FailsUnchanged f b c
    → FailsPartway (makes_file p text) f a c
unfolding FailsUnchanged FailsPartway
stopped p text rest h h' a b c f put stays = (
  record {
    read = tt;
    found = tt;
    source = stays.0 ∙ ap tree_in put.source;
    dest = front_left a.dest c.dest p text put.given rest put.whole (ap dest_tree (stays.1 ∙ put.dest) ∙ tree_at a.dest p put.given);
    log = stays.2 ∙ put.log;
  },
  rw put.failures at stays.3,
  stays.4,
)

-- memory was short before a further piece
pub stopped_short : (p : Path) (text rest : List ℕ) (h h' : Option Hasher) (a b : DeviceStates) → HasPut p text rest h h' a b
    → FailsPartway (makes_file p text) fault.Memory a b
unfolding FailsUnchanged
stopped_short p text rest h h' a b put = stopped p text rest h h' a b b fault.Memory put (refl, refl, refl, refl, tt)

-- a part of a piece was added
part_left : (o b c : Option Writing) (p : Path) (text given rest piece rest' : List ℕ) (part : Change) → part ≡ Adds piece → text ≡ given ++ rest
    → rest ≡ piece ++ rest' → b ≡ option_map (writing_at p given) o → LeavesPart b c part → LeavesPart o c (Makes (MakeFile p text))
part_left o b c p text given rest piece rest' part is whole next at (Untouched change same) = front_left o c p text given rest whole (same ∙ ap dest_tree at
    ∙ tree_at o p given)
part_left o b c p text given rest piece rest' part is whole next at (OfPiece bytes count same) =
    let it : bytes ≡ piece = cc in
    let front : List ℕ = given ++ take count bytes in
    let all : text ≡ front ++ (drop count bytes ++ rest') = whole ∙ ap (λ (l : List ℕ). given ++ l) (next
    ∙ ap (λ (l : List ℕ). l ++ rest') (sym it ∙ sym (take-append-drop count bytes)) ∙ append_assoc (take count bytes) (drop count bytes) rest')
    ∙ sym (append_assoc given (take count bytes) (drop count bytes ++ rest')) in
    front_left o c p text front (drop count bytes ++ rest') all (ap dest_tree (same ∙ ap (option_map (after_append (take count bytes))) at
    ∙ added_at o p given (take count bytes)) ∙ tree_at o p front)
part_left _ _ _ _ _ _ _ _ _ _ is _ _ _ _ = absurd (cc)

pub stopped_within : (p : Path) (text rest piece rest' : List ℕ) (h h' : Option Hasher) (a b c : DeviceStates) (f : Fault) → HasPut p text rest h h' a b
    → rest ≡ piece ++ rest' → FailsPartway (does (Adds piece)) f b c → FailsPartway (makes_file p text) f a c
unfolding FailsPartway
stopped_within p text rest piece rest' h h' a b c f put next left = (
  record {
    read = tt;
    found = tt;
    source = left.0.source ∙ ap tree_in put.source;
    dest = part_left a.dest b.dest c.dest p text put.given rest piece rest' (Adds piece) refl put.whole next put.dest left.0.dest;
    log = left.0.log ∙ put.log;
  },
  rw put.failures at left.1,
  left.2,
)

pub ruleset pieces = (started_at, none_at, begun, one_more_piece, can_write_on, all_put, all_fed, stopped, stopped_short, stopped_within, fed_one, fed_none)
