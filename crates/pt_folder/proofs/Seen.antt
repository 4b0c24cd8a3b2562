-- Entries looked at one after another, by the law of looks.
use Rattle.std.proofs.Common.{◌≡◌, ℕ, List, [], ◌∷◌, ◌++◌, true, sym, ap, ◌∙◌, subst, inl, inr, arith, append_assoc}
use Rattle.std.specs.Prelude.{Option, Some, IsSome, Result, Ok, Err, OnErr}
use Rattle.std.specs.Option.{option_map, ForSome}
use Rattle.std.specs.List.{All}
use Rattle.std.specs.declared.io.Error.{Error}
use Rattle.std.proofs.lemmas.List.Elements.{All-append, All-cons, All-nil}
use Rattle.pt_tree.specs.declared.faults.TreeFault.{TreeFault}
use Rattle.pt_tree.specs.declared.kind.Kind.{Kind}
use Rattle.pt_tree.specs.Forest.{Forest, Dir, dir_at, kind_of, node_at}
use Rattle.pt_tree.specs.Listing.{Item}
use Rattle.pt_tree.specs.Name.{is_name}
use Rattle.pt_tree.specs.Path.{Path, joined}
use Rattle.pt_tree.proofs.Joining.{joined-push}
use Rattle.pt_tree.proofs.Paths.{parent-push}
use Rattle.pt_folder.specs.Folder.{entry_text}
use Rattle.pt_folder.specs.Laws.{IsPath}
use Rattle.pt_folder.specs.Listing.{LooksIn, dir_front}
use Rattle.pt_folder.specs.Seeing.{IsItem, SeesAt}
use Rattle.pt_folder.specs.SourceLaws.{LookLaw, Looked}

-- the path of an entry of the directory
front_name : (folder : List ℕ) (p : Path) (n : List ℕ) → dir_front folder p ++ n ≡ entry_text folder (p ++ n ∷ [])
front_name folder [] n = append_assoc folder (47 ∷ []) n
front_name folder (x ∷ p) n =
    two folder (joined (x ∷ p)) n ∙ ap (λ (l : List ℕ). folder ++ 47 ∷ l) (sym (joined-push x p n))
  where
    two : (folder text n : List ℕ) → ((folder ++ 47 ∷ text) ++ 47 ∷ []) ++ n ≡ folder ++ 47 ∷ (text ++ 47 ∷ n)
    two folder text n = simp append_assoc

All-one : {X : Type 0} (P : X → Type 0) (x : X) → P x → All P (x ∷ [])
All-one P x is = All-cons P x [] is (All-nil P)

module _ {S : Type 0} (kept : S → List ℕ → Option Forest) (looks : S → List ℕ → Result Kind Error → S
    → Type 0) (law : LookLaw kept looks) (front : List ℕ) (old mid new : S) where
  looked_at : (name : List ℕ) (reply : Result Kind Error) → is_name name ≡ true → looks mid (front ++ name) reply new
      → (folder : List ℕ) (p : Path) → IsPath p → front ≡ dir_front folder p → ForSome (kept mid folder) (λ f. IsSome (dir_at f p))
      → Looked (kept mid folder) (kept new folder) (p ++ name ∷ []) reply
  looked_at name reply named asked folder p path begins can =
      law mid new folder (p ++ name ∷ []) reply (All-append (λ n. is_name n ≡ true) p (name ∷ []) path (All-one (λ n. is_name n ≡ true) name named))
      (λ f known. subst (λ q. IsSome (dir_at f q)) (sym (parent-push p name)) (can f known))
      (subst (λ t. looks mid t reply new) (ap (λ (l : List ℕ). l ++ name) begins ∙ front_name folder p name) asked)

  pub sees_more : (listing after : List Item) (name : List ℕ) (kind : Kind) → SeesAt kept front old mid listing → is_name name ≡ true
      → LooksIn looks front name mid new (Ok kind) → after ≡ listing ++ (name, kind) ∷ [] → SeesAt kept front old new after
  sees_more listing after name kind seen named (inl none) more = let other = none.1 in absurd (cc)
  sees_more listing after name kind seen named (inr (Err e, asked, leads)) more = absurd leads
  sees_more listing after name kind seen named (inr (Ok m, asked, leads)) more = λ folder p path begins can.
      let before = seen folder p path begins can in
      let own : Some m ≡ Some kind = cc in
      let look = looked_at name (Ok m) named asked folder p path begins (λ f known. can f (sym before.same ∙ known)) in
      record {
        same = look.same ∙ before.same;
        seen = λ f known.
            let here : option_map kind_of (node_at (Dir f) (p ++ name ∷ [])) ≡ Some kind = look.shown f (before.same ∙ known) ∙ own in
            subst (All (IsItem f p)) (sym more) (All-append (IsItem f p) listing ((name, kind) ∷ []) (before.seen f known)
            (All-one (IsItem f p) (name, kind) here));
      }

  -- what is kept stays, whatever the look gave
  pub sees_fail : (listing : List Item) (name : List ℕ) (r : Result Kind TreeFault) → SeesAt kept front old mid listing → is_name name ≡ true
      → LooksIn looks front name mid new r → SeesAt kept front old new []
  sees_fail listing name r seen named asked = λ folder p path begins can. let before = seen folder p path begins can in record {
    same = stays folder p path begins (λ f known. can f (sym before.same ∙ known)) asked ∙ before.same;
    seen = λ f known. λ k d within. absurd (omega arith);
  }
    where
      stays : (folder : List ℕ) (p : Path) → IsPath p → front ≡ dir_front folder p → ForSome (kept mid folder) (λ f. IsSome (dir_at f p))
          → LooksIn looks front name mid new r → kept new folder ≡ kept mid folder
      stays folder p path begins can (inl none) = ap (λ s. kept s folder) none.0
      stays folder p path begins can (inr (reply, asked, leads)) = (looked_at name reply named asked folder p path begins can).same

pub on_err : {T E : Type 0} (r : Result T E) (P : Type 0) → P → OnErr r P
on_err (Ok x) P h = tt
on_err (Err e) P h = h
