-- What is answered to texts of which one is no name.
use Rattle.std.proofs.Common.{
  ◌≡◌,
  ◌∙◌,
  ◌+◌,
  ◌++◌,
  ◌∷◌,
  [],
  ℕ,
  ◌<◌,
  Bool,
  true,
  false,
  List,
  length,
  get_or,
  map,
  take,
  inl,
  inr,
  Bor,
  Option,
  Some,
  Result,
  Ok,
  Err,
  ap,
  refl,
  sym,
}
use Rattle.std.specs.Prelude.{◌&&◌}
use Rattle.std.proofs.lemmas.List.{map-append, take_more}
use Rattle.std.specs.Result.{IsErrAnd}
use Rattle.std.proofs.lemmas.List.Folds.{list_all-append, list_all-map, list_all_at}
use Rattle.clap.specs.Words.{Text}
use Rattle.pt_tree.specs.Name.{is_name}
use Rattle.pt_tree.specs.Refusal.{Answers}
use Rattle.pt_cli.specs.Arguments.{ReadsAs}
use Rattle.pt_cli.specs.Ignore.{AreNamed, are_names, names_of, names_only, not_a_name}
use Rattle.pt_cli.specs.declared.faults.Unread.{Unread}
use Rattle.pt_cli.specs.declared.faults.Unread.TheVariants as fault

abbrev written : List (Bor Text) → List Text
written texts = map (λ (t : Bor Text). t.now) texts

-- the texts are no names, where one of them is none
not_all_names : (texts : List (Bor Text)) (i : ℕ) (d : Bor Text) → i < length texts → is_name (get_or texts i d).now ≡ false → are_names (written texts) ≡ false
not_all_names texts i d here none =
    list_all-map is_name (λ (t : Bor Text). t.now) texts ∙ list_all_at (λ (t : Bor Text). is_name t.now) texts i d here none

pub name_refused : (texts : List (Bor Text)) (i : ℕ) (d : Bor Text) (e : Unread) (r : Result (List Text) Unread) (P : List ℕ → Type 0) → i < length texts
    → Answers {T = List ℕ} (not_a_name (is_name (get_or texts i d).now)) fault.Memory (Err e) P → IsErrAnd r (λ y. y ≡ e) → AreNamed (written texts) r
name_refused texts i d e (Ok names) P here told is = absurd is
name_refused texts i d e (Err y) P here told is = go (is_name (get_or texts i d).now) refl told
  where
    go : (b : Bool) → is_name (get_or texts i d).now ≡ b → Answers {T = List ℕ} (not_a_name b) fault.Memory (Err e) P → AreNamed (written texts) (Err y)
    go true named memory = inl (is ∙ memory)
    go false none refused =
        let same : e ≡ fault.Ignored = cc in
        inr (not_all_names texts i d here none, is ∙ same)

-- a text that is a name is one more of them
pub name_added : (texts : List (Bor Text)) (i : ℕ) (d : Bor Text) (name : List ℕ) (names added : List Text) → i < length texts
    → Answers {T = List ℕ} (not_a_name (is_name (get_or texts i d).now)) fault.Memory (Ok name) (λ n. n ≡ (get_or texts i d).now)
    → (names ≡ written (take i texts)) × (are_names names ≡ true) → added ≡ names ++ name ∷ []
    → (added ≡ written (take (i + 1) texts)) × (are_names added ≡ true)
name_added texts i d name names added within told (so_far, all) is = go (is_name (get_or texts i d).now) refl told
  where
    both : (a b : Bool) → a ≡ true → b ≡ true → (a && (b && true)) ≡ true
    both a b x y = cc

    go : (b : Bool) → is_name (get_or texts i d).now ≡ b → Answers {T = List ℕ} (not_a_name b) fault.Memory (Ok name) (λ n. n ≡ (get_or texts i d).now)
        → (added ≡ written (take (i + 1) texts)) × (are_names added ≡ true)
    go true named at = (
      is ∙ ap (λ (l : List Text). l ++ name ∷ []) so_far ∙ ap (λ (n : Text). written (take i texts) ++ n ∷ []) at
          ∙ sym (ap written (take_more texts i d within) ∙ map-append (λ (t : Bor Text). t.now) (take i texts) (get_or texts i d ∷ [])),
      ap are_names is ∙ list_all-append is_name names (name ∷ []) ∙ both (are_names names) (is_name name) all (ap is_name at ∙ named),
    )
    go false none at = absurd (cc)

-- so they are read
pub names_read : (texts : List Text) (r : Result (List Text) Unread) → AreNamed texts r → ReadsAs (names_of (Some texts)) r
names_read texts (Ok names) (all, same) = ap (λ b. names_only b texts) all ∙ ap Ok (sym same)
names_read texts (Err e) (inl memory) = inr memory
names_read texts (Err e) (inr (none, ignored)) = inl (ap (λ b. names_only b texts) none ∙ ap Err (sym ignored))
