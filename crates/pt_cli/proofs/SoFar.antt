-- What was read of an input and written of it so far, and what that comes to.
use Rattle.std.proofs.Common.{
  ◌≡◌,
  ◌∙◌,
  ◌+◌,
  ◌++◌,
  ◌∷◌,
  [],
  ℕ,
  zero,
  suc,
  Bool,
  true,
  false,
  List,
  length,
  take,
  Option,
  Some,
  None,
  Result,
  Ok,
  Err,
  ap,
  refl,
  sym,
  subst,
  append-nil,
}
use Rattle.std.specs.Prelude.{◌==◌, cond}
use Rattle.std.specs.Result.{IsErrAnd}
use Rattle.std.specs.Io.KnownBytes.{Appends, Consumes, IsAtEnd, Keeps}
use Rattle.std.proofs.KnownBytes.{Appends-kept, Appends-trans, Consumes-kept, Consumes-trans}
use Rattle.std.proofs.lemmas.List.Sums.{fold-append}
use Rattle.pt_tree.specs.Log.{AppendsFront}
use Rattle.pt_cli.specs.Feeding.{Fed, IsPut, Stopped, ended, ended_by, fed, fed_step, finished, text_in}
use Rattle.pt_cli.specs.Lines.{line_fault}
use Rattle.pt_cli.specs.NameList.{AppendsSome, AppendsWhole, AnswersSo, NamesListed, ListsNames, listed_of, names_line, whole_of}
use Rattle.pt_cli.specs.declared.command.NamesArgs.{NamesArgs}
use Rattle.pt_cli.specs.declared.list_fault.LineFault.{LineFault}
use Rattle.pt_cli.specs.declared.list_fault.ListFault.{ListFault}
use Rattle.pt_cli.specs.declared.list_fault.ListFault.TheVariants as list
use Rattle.pt_cli.proofs.NameLists.{all_read, at_end, in_all, shifted, shifted-ended, shifted-fed, whole_read}

-- the beginning of an input
abbrev pub begun : Fed
begun = record { number = 1; line = []; text = [] }

-- these bytes were read, and the names that they come to were written
pub record SoFar (asked : NamesArgs) (input rest old new : Option (List ℕ)) (at : Fed) : Type 0 where
  pub bytes : List ℕ
  pub told : List ℕ
  pub consumed : Consumes input rest bytes
  pub came : fed asked (Ok begun) bytes ≡ Ok (record at { text = told })
  pub written : Appends old new told
  pub none : at.text ≡ []

Consumes-nothing : (a : Option (List ℕ)) → Consumes a a []
Consumes-nothing None = tt
Consumes-nothing (Some xs) = refl

Appends-nothing : (a : Option (List ℕ)) → Appends a a []
Appends-nothing None = tt
Appends-nothing (Some xs) = sym (append-nil xs)

Consumes-no_more : (a b c : Option (List ℕ)) (bytes : List ℕ) → Consumes a b bytes → Consumes b c [] → Consumes a c bytes
Consumes-no_more a b c bytes p q = subst (Consumes a c) (append-nil bytes) (Consumes-trans a b c bytes [] p q)

-- a front of a list is one of it with more behind
front_before : (n : ℕ) (xs more : List ℕ) → (m : ℕ) × (take m (xs ++ more) ≡ take n xs)
front_before zero xs more = (0, refl)
front_before (suc n) [] more = (0, refl)
front_before (suc n) (x ∷ xs) more =
    let rest = front_before n xs more in
    (suc rest.0, ap (λ (l : List ℕ). x ∷ l) rest.1)

-- a front of a list is one of it behind more
front_behind : (more : List ℕ) (n : ℕ) (xs : List ℕ) → (m : ℕ) × (take m (more ++ xs) ≡ more ++ take n xs)
front_behind [] n xs = (n, refl)
front_behind (x ∷ more) n xs =
    let rest = front_behind more n xs in
    (suc rest.0, ap (λ (l : List ℕ). x ∷ l) rest.1)

-- a front was written behind what was
front_more : (a b c : Option (List ℕ)) (told text more : List ℕ) → Appends a b told → AppendsFront b c text → AppendsFront a c ((told ++ text) ++ more)
front_more a b c told text more first (n, next) =
    let inner = front_behind told n text in
    let outer = front_before inner.0 (told ++ text) more in
    (outer.0, subst (Appends a c) (sym (outer.1 ∙ inner.1)) (Appends-trans a b c told (take n text) first next))

module _ (asked : NamesArgs) where
  pub nothing_yet : (input out : Option (List ℕ)) → SoFar asked input input out out begun
  nothing_yet input out = record {
    bytes = [];
    told = [];
    consumed = Consumes-nothing input;
    came = refl;
    written = Appends-nothing out;
    none = refl;
  }

  -- the end of an input has no part in the names before
  shifted-finished : (text : List ℕ) (at : Fed) → finished asked (record at { text = text ++ at.text }) ≡ shifted text (finished asked at)
  shifted-finished text at = by (length at.line == 0)
    where
      by : (c : Bool) → cond c (Ok (record at { text = text ++ at.text })) (ended asked (record at { text = text ++ at.text }) at.line)
          ≡ shifted text (cond c (Ok at) (ended asked at at.line))
      by true = refl
      by false = shifted-ended asked text at at.line (line_fault at.line)

  -- what comes of an input has the names at hand at its front
  text_at_front : (at : Result Fed Stopped) → (more : List ℕ) × ((in_all (at_end asked at)).text ≡ text_in at ++ more)
  text_at_front (Err stop) = ([], sym (append-nil stop.text))
  text_at_front (Ok at) = by (length at.line == 0)
    where
      one : (fault : Option LineFault) → (more : List ℕ) × ((in_all (ended_by asked at at.line fault)).text ≡ at.text ++ more)
      one None = (names_line asked at.line, refl)
      one (Some fault) = ([], sym (append-nil at.text))

      by : (c : Bool) → (more : List ℕ) × ((in_all (cond c (Ok at) (ended asked at at.line))).text ≡ at.text ++ more)
      by true = ([], sym (append-nil at.text))
      by false = one (line_fault at.line)

  text_shifted : (told : List ℕ) (r : Result Fed Stopped) → text_in (shifted told r) ≡ told ++ text_in r
  text_shifted told (Ok at) = refl
  text_shifted told (Err stop) = refl

  module _ (input mid old out : Option (List ℕ)) (at : Fed) (so_far : SoFar asked input mid old out at) where
    at_hand : Ok (record at { text = so_far.told }) ≡ shifted so_far.told (Ok at)
    at_hand =
        ap (λ (l : List ℕ). Ok (record at { text = l })) (sym (ap (λ (l : List ℕ). so_far.told ++ l) so_far.none ∙ append-nil so_far.told))

    -- what more bytes come to
    more_bytes : (piece : List ℕ) → fed asked (Ok begun) (so_far.bytes ++ piece) ≡ shifted so_far.told (fed asked (Ok at) piece)
    more_bytes piece =
        fold-append (fed_step asked) (Ok begun) so_far.bytes piece
        ∙ ap (λ (r : Result Fed Stopped). fed asked r piece) (so_far.came ∙ at_hand)
        ∙ shifted-fed asked so_far.told (Ok at) piece

    -- the names so far are those of the whole lines, each of which is an identifier
    whole_so_far : (new : Option (List ℕ)) → Appends old new so_far.told → AppendsWhole asked old new so_far.bytes
    whole_so_far new appended =
        let whole : whole_of asked so_far.bytes ≡ record { text = so_far.told; bad = None } =
        whole_read asked begun (record at { text = so_far.told }) so_far.bytes so_far.came in (
          ap (λ (l : NamesListed). l.bad) whole,
          subst (Appends old new) (sym (ap (λ (l : NamesListed). l.text) whole)) appended,
        )

    some : (new : Option (List ℕ)) (piece : List ℕ) → Keeps out new → AppendsSome asked old new (so_far.bytes ++ piece)
    some new piece kept = record {
      front = so_far.bytes;
      behind = piece;
      both = refl;
      appended = whole_so_far new (Appends-kept old out new so_far.told so_far.written kept);
    }

    -- a piece more was read, and written
    pub goes_on : (rest new : Option (List ℕ)) (now : Fed) (piece : List ℕ) → Consumes mid rest piece
        → IsPut (fed asked (Ok at) piece) now out new (Ok tt) → SoFar asked input rest old new now
    goes_on rest new now piece read (came, none, written) = record {
      bytes = so_far.bytes ++ piece;
      told = so_far.told ++ text_in (fed asked (Ok at) piece);
      consumed = Consumes-trans input mid rest so_far.bytes piece so_far.consumed read;
      came = more_bytes piece ∙ ap (shifted so_far.told) came;
      written = Appends-trans old out new so_far.told (text_in (fed asked (Ok at) piece)) so_far.written written;
      none = none;
    }

    -- a piece more ended it
    pub ends_in : (rest new : Option (List ℕ)) (now : Fed) (piece : List ℕ) (e : ListFault) (answer : Result (Unit {0}) ListFault)
        → Consumes mid rest piece → IsPut (fed asked (Ok at) piece) now out new (Err e) → IsErrAnd answer (λ y. y ≡ e)
        → ListsNames asked input rest old new answer
    ends_in rest new now piece e (Ok done) read put is = absurd is
    ends_in rest new now piece e (Err y) read put is = record {
      bytes = so_far.bytes ++ piece;
      consumed = Consumes-trans input mid rest so_far.bytes piece so_far.consumed read;
      listed = subst (λ (f : ListFault). AnswersSo asked (so_far.bytes ++ piece) rest old new (Err f)) (sym is) (by e put);
    }
      where
        whole : List ℕ
        whole = so_far.bytes ++ piece

        text : List ℕ
        text = text_in (fed asked (Ok at) piece)

        listed : in_all (at_end asked (fed asked (Ok begun) whole)) ≡ listed_of asked whole
        listed = all_read asked begun whole

        by : (f : ListFault) → IsPut (fed asked (Ok at) piece) now out new (Err f) → AnswersSo asked whole rest old new (Err f)
        by (list.Line bad) (came, written) =
            let total : in_all (at_end asked (fed asked (Ok begun) whole)) ≡ record { text = so_far.told ++ text; bad = Some bad } =
            ap (λ (r : Result Fed Stopped). in_all (at_end asked r)) (more_bytes piece ∙ ap (shifted so_far.told) came) in
            let all : listed_of asked whole ≡ record { text = so_far.told ++ text; bad = Some bad } = sym listed ∙ total in (
              ap (λ (l : NamesListed). l.bad) all,
              subst (Appends old new) (sym (ap (λ (l : NamesListed). l.text) all)) (Appends-trans old out new so_far.told text so_far.written written),
            )
        by list.Read put = absurd put
        by list.Write put =
            let front = text_at_front (fed asked (Ok begun) whole) in
            let same : text_in (fed asked (Ok begun) whole) ≡ so_far.told ++ text =
            ap text_in (more_bytes piece) ∙ text_shifted so_far.told (fed asked (Ok at) piece) in
            let all : (listed_of asked whole).text ≡ (so_far.told ++ text) ++ front.0 =
            ap (λ (l : NamesListed). l.text) (sym listed) ∙ front.1 ∙ ap (λ (l : List ℕ). l ++ front.0) same in
            subst (AppendsFront old new) (sym all) (front_more old out new so_far.told text front.0 so_far.written put)
        by list.Memory put = some new piece put

    -- the input is at its end
    pub ends : (rest new : Option (List ℕ)) (now : Fed) (answer : Result (Unit {0}) ListFault)
        → Consumes mid rest [] → IsAtEnd rest → IsPut (finished asked at) now out new answer
        → ListsNames asked input rest old new answer
    ends rest new now answer read end put = record {
      bytes = so_far.bytes;
      consumed = Consumes-no_more input mid rest so_far.bytes so_far.consumed read;
      listed = by answer put;
    }
      where
        text : List ℕ
        text = text_in (finished asked at)

        listed : listed_of asked so_far.bytes ≡ in_all (shifted so_far.told (finished asked at))
        listed =
            sym (all_read asked begun so_far.bytes)
            ∙ ap (λ (r : Result Fed Stopped). in_all (at_end asked r)) (so_far.came ∙ at_hand)
            ∙ ap in_all (shifted-finished so_far.told at)

        by : (a : Result (Unit {0}) ListFault) → IsPut (finished asked at) now out new a → AnswersSo asked so_far.bytes rest old new a
        by (Ok done) (came, none, written) =
            let all : listed_of asked so_far.bytes ≡ record { text = so_far.told ++ text; bad = None } =
            listed ∙ ap (λ (r : Result Fed Stopped). in_all (shifted so_far.told r)) came in (
              end,
              ap (λ (l : NamesListed). l.bad) all,
              subst (Appends old new) (sym (ap (λ (l : NamesListed). l.text) all)) (Appends-trans old out new so_far.told text so_far.written written),
            )
        by (Err (list.Line bad)) (came, written) =
            let all : listed_of asked so_far.bytes ≡ record { text = so_far.told ++ text; bad = Some bad } =
            listed ∙ ap (λ (r : Result Fed Stopped). in_all (shifted so_far.told r)) came in (
              ap (λ (l : NamesListed). l.bad) all,
              subst (Appends old new) (sym (ap (λ (l : NamesListed). l.text) all)) (Appends-trans old out new so_far.told text so_far.written written),
            )
        by (Err list.Read) put = absurd put
        by (Err list.Write) put =
            let all : (listed_of asked so_far.bytes).text ≡ (so_far.told ++ text) ++ [] =
            ap (λ (l : NamesListed). l.text) listed ∙ text_all so_far.told (finished asked at) ∙ sym (append-nil (so_far.told ++ text)) in
            subst (AppendsFront old new) (sym all) (front_more old out new so_far.told text [] so_far.written put)
          where
            text_all : (told : List ℕ) (r : Result Fed Stopped) → (in_all (shifted told r)).text ≡ told ++ text_in r
            text_all told (Ok a) = refl
            text_all told (Err stop) = refl
        by (Err list.Memory) put =
            subst (AppendsSome asked old new) (append-nil so_far.bytes) (some new [] put)

    -- the input can't be read any more
    pub breaks : (rest : Option (List ℕ)) → Keeps mid rest → ListsNames asked input rest old out (Err list.Read)
    breaks rest kept = record {
      bytes = so_far.bytes;
      consumed = Consumes-kept input mid rest so_far.bytes so_far.consumed kept;
      listed = whole_so_far out so_far.written;
    }
