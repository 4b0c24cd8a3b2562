-- What an inventory says of its version, read back, and whether it is one that a run could make.
use Rattle.std.proofs.Common.{◌≡◌, ◌∙◌, ◌∷◌, [], ℕ, List, Bool, true, false, refl, ap, sym, subst}
use Rattle.std.proofs.lemmas.Bool.{true≢false}
use Rattle.std.specs.Prelude.{IfOk, IfSome, MatchOption, Ok, Err, None, Some, Option, Result}
use Rattle.std.specs.Option.{option_and_then, unwrap_or}
use Rattle.std.specs.Str.{IsUtf8, bytes_eq}
use Rattle.std.specs.Cmp.Lexicographic.{other_text, same_text}
use Rattle.pt_compare.specs.Described.{IsGiven, IsMade, TellsMade, description_in, given_by, is_text_with, texts_in_inventory, unless_refused}
use Rattle.pt_object.proofs.InventoryText.{inventory_reads}
use Rattle.pt_object.specs.Inventory.{inventory_text, inventory_tree}
use Rattle.pt_object.specs.Meta.{given_address, meta_refusal, parts_of}
use Rattle.pt_object.specs.MetaParts.{MetaParts}
use Rattle.pt_object.specs.declared.algorithm.Algorithm.{Algorithm}
use Rattle.pt_object.specs.declared.meta.MetaFault.{MetaFault}
use Rattle.pt_object.specs.declared.meta.MetaFault.TheVariants as fault
use Rattle.pt_object.specs.declared.rows.Row.{Row}
use Rattle.pt_tree.specs.Refusal.{Answers}
use Rattle.pt_tree.specs.declared.faults.MemoryFault.{MemoryFault}
use Rattle.serde_json.specs.Data.{null}
use Rattle.serde_json.specs.Read.{read}

-- ---- what a run is given

given_twice : (address : Option (List ℕ)) → given_address (given_address address) ≡ given_address address
given_twice None = refl
given_twice (Some []) = refl
given_twice (Some (x ∷ xs)) = refl

-- what a run is given, it can be given again
given_again : (texts meta : MetaParts) → given_by texts ≡ Some meta → IsGiven meta
given_again texts meta is = by (meta_refusal texts.created texts.name) refl is
  where
    by : (o : Option MetaFault) → meta_refusal texts.created texts.name ≡ o → unless_refused o texts ≡ Some meta → IsGiven meta
    by None free is =
        let told : MetaParts = record texts { address = given_address texts.address } in
        let same : told ≡ meta = cc in
        subst IsGiven same (ap (λ o. unless_refused o told) free ∙ ap (λ a. Some (parts_of texts.created texts.name a texts.message))
        (given_twice texts.address))
    by (Some refusal) free is = absurd (cc)

given_of : (texts : Option MetaParts) (meta : MetaParts) → option_and_then given_by texts ≡ Some meta → IsGiven meta
given_of None meta is = absurd (cc)
given_of (Some texts) meta is = given_again texts meta is

pub all_given : (texts : MetaParts) (r : Result (Option MetaParts) MemoryFault) → IfOk r (λ meta. meta ≡ given_by texts) → IfOk r (λ meta. IfSome meta IsGiven)
all_given texts (Ok None) is = tt
all_given texts (Ok (Some meta)) is = given_again texts meta (sym is)
all_given texts (Err e) is = tt

pub given_ok : (o : Option MetaFault) (texts meta : MetaParts) → Answers o fault.Memory (Ok meta) (λ m. m
    ≡ record texts { address = given_address texts.address }) → Some meta ≡ unless_refused o texts
given_ok None texts meta is = ap (λ m. Some m) is
given_ok (Some refusal) texts meta is = absurd (cc)

pub given_err : (o : Option MetaFault) (texts : MetaParts) (f : MetaFault) (P : MetaParts → Type 0) → (f ≡ fault.Memory → ⊥) → Answers o fault.Memory (Err f) P
    → None ≡ unless_refused o texts
given_err None texts f P refused is = absurd (refused is)
given_err (Some refusal) texts f P refused is = refl

-- neither refusal is a want of memory
pub not_created : fault.Created ≡ fault.Memory → ⊥
not_created is = cc

pub not_empty : fault.EmptyName ≡ fault.Memory → ⊥
not_empty is = cc

-- ---- whether it is made

-- with a description that a run can be given the inventory is made
made_with : (text_with : MetaParts → List ℕ) (inventory : List ℕ) (meta : MetaParts) → IsUtf8 inventory → IsGiven meta
    → is_text_with text_with inventory meta ≡ true → IsMade text_with inventory
made_with text_with inventory meta text given is =
    record { is_text = text; meta = meta; given = given; is = same_text inventory (text_with meta) (sym is) }

pub tells_made : (text_with : MetaParts → List ℕ) (inventory : List ℕ) (meta : MetaParts) (made : Bool) → IsUtf8 inventory → IsGiven meta
    → made ≡ true → made ≡ is_text_with text_with inventory meta → TellsMade text_with inventory true
tells_made text_with inventory meta made text given is told = (λ t. made_with text_with inventory meta text given (sym told ∙ is), λ m. refl)

-- what the inventory of some files says of its version
module _ (id : List ℕ) (rows : List Row) (algorithm : Algorithm) where
  abbrev texts : MetaParts → List ℕ
  texts meta = inventory_text id rows meta algorithm

  told_of : (meta : MetaParts) → texts_in_inventory (inventory_tree id rows meta algorithm) ≡ Some (parts_of meta.created meta.name meta.address meta.message)
  told_of meta = by meta.address refl
    where
      by : (address : Option (List ℕ)) → meta.address ≡ address → texts_in_inventory (inventory_tree id rows meta algorithm)
          ≡ Some (parts_of meta.created meta.name meta.address meta.message)
      by None is = ap (λ a. texts_in_inventory (inventory_tree id rows (parts_of meta.created meta.name a meta.message) algorithm)) is
          ∙ ap (λ a. Some (parts_of meta.created meta.name a meta.message)) (sym is)
      by (Some address) is = ap (λ a. texts_in_inventory (inventory_tree id rows (parts_of meta.created meta.name a meta.message) algorithm)) is
          ∙ ap (λ a. Some (parts_of meta.created meta.name a meta.message)) (sym is)

  read_back : (meta : MetaParts) → IsGiven meta → description_in (unwrap_or (read (texts meta)) null) ≡ Some meta
  read_back meta given = ap (λ o. description_in (unwrap_or o null)) (inventory_reads id rows meta algorithm) ∙ ap (option_and_then given_by) (told_of meta)
      ∙ given

  same_as_itself : (text : List ℕ) → bytes_eq text text ≡ true
  same_as_itself text = by (bytes_eq text text) refl
    where
      by : (b : Bool) → bytes_eq text text ≡ b → b ≡ true
      by true is = refl
      by false is = absurd (other_text text text (sym is) refl)

  -- an inventory that is made says just the description that it is made with
  made_says : (inventory : List ℕ) (made : IsMade texts inventory) → description_in (unwrap_or (read inventory) null) ≡ Some made.meta
  made_says inventory made = ap (λ b. description_in (unwrap_or (read b) null)) made.is ∙ read_back made.meta made.given

  made_read : (inventory : List ℕ) (meta : MetaParts) → Some meta ≡ description_in (unwrap_or (read inventory) null) → IsMade texts inventory
      → is_text_with texts inventory meta ≡ true
  made_read inventory meta told made =
      let found : Some meta ≡ Some made.meta = told ∙ made_says inventory made in
      let same : meta ≡ made.meta = cc in
      ap (is_text_with texts inventory) same ∙ ap (λ b. bytes_eq b (texts made.meta)) made.is ∙ same_as_itself (texts made.meta)

  pub tells_by_json : (inventory : List ℕ) (meta : MetaParts) (r : Result Bool MemoryFault) → IsUtf8 inventory
      → Some meta ≡ description_in (unwrap_or (read inventory) null) → IfOk r (λ made. made ≡ is_text_with texts inventory meta)
      → IfOk r (TellsMade texts inventory)
  tells_by_json inventory meta (Err e) text told is = tt
  tells_by_json inventory meta (Ok made) text told is = (
    λ t. made_with texts inventory meta text (given_of (texts_in_inventory (unwrap_or (read inventory) null)) meta (sym told)) (sym is ∙ t),
    λ m. is ∙ made_read inventory meta told m,
  )

  -- one that says no description isn't made
  pub tells_unmade : (inventory : List ℕ) → None ≡ description_in (unwrap_or (read inventory) null) → TellsMade texts inventory false
  tells_unmade inventory told = (
    λ t. absurd (true≢false (sym t)),
    λ m. let none : None ≡ Some m.meta = told ∙ made_says inventory m in absurd (cc),
  )

-- what is said of an answer, where it is known
pub on_none : {T : Type 0} (o : Option T) (P : Type 0) (Q : T → Type 0) → o ≡ None → MatchOption o P Q → P
on_none None P Q is p = p
on_none (Some x) P Q is p = absurd (cc)

pub on_some : {T : Type 0} (o : Option T) (x : T) (P : Type 0) (Q : T → Type 0) → o ≡ Some x → MatchOption o P Q → Q x
on_some o x P Q is p = subst (λ o. MatchOption o P Q) is p
