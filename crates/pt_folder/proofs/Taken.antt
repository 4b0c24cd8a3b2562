-- What a directory gives is taken, one name after another.
use Rattle.std.proofs.Common.{
  ◌≡◌,
  ℕ,
  arith,
  length,
  true,
  false,
  List,
  [],
  ◌∷◌,
  ◌++◌,
  ◌+◌,
  ◌==◌,
  ◌≤◌,
  take,
  drop,
  length-drop,
  refl,
  sym,
  ap,
  ◌∙◌,
  append-nil,
  cond,
  subst,
  suc,
}
use Rattle.std.specs.Prelude.{Option, None, Some, IfSome, IfErr, OnOk, MatchResult, Result, Ok, Err}
use Rattle.std.specs.List.{position}
use Rattle.std.specs.Result.{IsErrAnd}
use Rattle.std.specs.Io.KnownBytes.{Consumes}
use Rattle.std.proofs.lemmas.List.Elements.{All-nil}
use Rattle.pt_tree.specs.declared.faults.TreeFault.{TreeFault}
use Rattle.pt_folder.specs.Calls.{IsDueTo}
use Rattle.pt_folder.specs.Laws.{Gives}
use Rattle.pt_folder.specs.Names.{AddsNames, GivesNames, LacksNul, RefusesBytes, is_entry}
use Rattle.pt_folder.specs.Taking.{HasMore, HasOneMore}
use Rattle.pt_folder.proofs.Names.{Done, adds_one, refuses_one, refuses_rest}

module _ {A : Type 0} (has : A → List (List ℕ) → Type 0) (piece rest : List ℕ) (old mid : A) where
  -- what the front of the piece gives was taken
  abbrev pub Took : Type 0
  Took = (all : List (List ℕ)) → has old all → (now : List (List ℕ)) × Done piece rest all now × has mid now

  module _ (took : Took) where
    -- all of it was
    pub took_all : (length rest == 0) ≡ true → HasMore has old mid piece
    took_all none = λ all is. let now = took all is in (now.0, whole all now.0 rest none now.1, now.2)
      where
        whole : (all now : List (List ℕ)) (rest : List ℕ) → (length rest == 0) ≡ true → Done piece rest all now → AddsNames piece all now
        whole all now [] none (front, is, adds) = subst (λ bytes. AddsNames bytes all now) (sym (is ∙ append-nil front)) adds
        whole all now (x ∷ rest) none done = absurd (some (length rest) none)
          where
            some : (n : ℕ) → (suc n == 0) ≡ true → ⊥
            some n h = grind (arith, h)

    -- bytes are left, and no NUL behind them
    pub rest_refused : (refuses : List (List ℕ) → List ℕ → Type 0) → position (λ b. b == 0) rest ≡ None → (length rest == 0) ≡ false → (all : List (List ℕ))
        → has old all → RefusesBytes refuses all piece
    rest_refused refuses none some all is = let now = took all is in refuses_rest refuses piece rest all now.0 now.1 none some

    module _ (end : ℕ) (found : position (λ b. b == 0) rest ≡ Some end) where
      -- the next name was too
      pub took_one : (new : A) → HasOneMore has mid new (take end rest) → (left : List ℕ) → left ≡ drop (end + 1) rest → (all : List (List ℕ)) → has old all
          → (now : List (List ℕ)) × Done piece left all now × has new now
      took_one new taken left left_is all is =
          let now = took all is in
          let after = cond (is_entry (take end rest)) (now.0 ++ take end rest ∷ []) now.0 in
          (after, adds_one piece rest (take end rest) left all now.0 after end now.1 found refl left_is refl, taken now.0 now.2)

      -- the next name isn't taken
      pub name_refused : (refuses : List (List ℕ) → List ℕ → Type 0) (fault : TreeFault)
          → ((all : List (List ℕ)) → has mid all → IsDueTo fault (refuses all (take end rest)))
          → (all : List (List ℕ)) → has old all → IsDueTo fault (RefusesBytes refuses all piece)
      name_refused refuses fault cause all is = let now = took all is in refuses_one refuses piece rest (take end rest) all now.0 end fault now.1 found refl
          (cause now.0 now.2)

-- what is left is no longer than the piece
pub left_short : (piece rest left : List ℕ) (n : ℕ) → length rest ≤ length piece → left ≡ drop n rest → length left ≤ length piece
left_short piece rest left n short is = subst (λ (l : List ℕ). length l ≤ length piece) (sym is) (omega (arith, short, length-drop n rest))

-- at the piece's start
pub took_none : {A : Type 0} (has : A → List (List ℕ) → Type 0) (piece : List ℕ) (old : A) → Took has piece piece old old
took_none has piece old all is =
    let none : GivesNames [] [] = record { given = []; cut = refl; whole = All-nil LacksNul; kept = refl } in
    let adds : AddsNames [] all all = record { more = []; added = sym (append-nil all); given = none } in
    (all, ([], refl, adds), is)

-- at the end all was read
pub all_given : (old mid new : Option (List ℕ)) (all : List (List ℕ)) (buffer : List ℕ) (n : ℕ)
    → ((read : List ℕ) × Consumes old mid read × GivesNames read all) → Gives mid new n buffer
    → n ≡ 0 → length buffer ≡ 8192 → IfSome old (λ bytes. GivesNames bytes all)
all_given None mid new all buffer n so_far gives is long = tt
all_given (Some xs) None new all buffer n (read, taken, given) gives is long = absurd taken
all_given (Some xs) (Some ys) None all buffer n so_far (last, ends) is long = absurd last
all_given (Some xs) (Some ys) (Some zs) all buffer n (read, taken, given) (last, ends) is long =
    let nothing : zs ≡ [] = ends is (omega (arith, long)) in
    let rest : ys ≡ [] = last ∙ ap (λ k. take k buffer ++ zs) is ∙ nothing in
    subst (λ l. GivesNames l all) (sym (taken ∙ ap (λ l. read ++ l) rest ∙ append-nil read)) given

-- what holds of an error that is handed on
pub err_handed : {T : Type 0} (r : Result T TreeFault) (fault : TreeFault) (P : TreeFault → Type 0) → IsErrAnd r (λ y. y ≡ fault) → P fault → IfErr r P
err_handed (Ok x) fault P is holds = absurd is
err_handed (Err y) fault P is holds = subst P (sym is) holds

-- what holds of an answer and of an error
pub each_way : {T E : Type 0} (r : Result T E) (P : Type 0) (R : E → Type 0) → OnOk r P → IfErr r R → MatchResult r (λ x. P) R
each_way (Ok x) P R p e = p
each_way (Err y) P R p e = e
