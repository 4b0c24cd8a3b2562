use Rattle.std.proofs.Common.{◌≡◌, ◌-◌, [], ◌∷◌, length, Some, None, sym, ap, ap₂, ◌∙◌, arith, refl}
use Rattle.json.specs.Json.{parse_map, after_end_array, read_key, items, members, value}
use Rattle.pt_extra.specs.Tokens.{text_of, token_of}
use Rattle.json.proofs.Grammar.{value_is, value-begin_array, value-begin_object, read_key-shorter}
use Rattle.serde_json.specs.Data.{no_items, number, string, array, object, item, put}
use Rattle.serde_json.specs.Read.{of_json, converted, number_of}
use Rattle.pt_extra.proofs.Converted.{
  converted-array,
  converted-object,
  item_read,
  item_refused,
  items_over,
  member_read,
  member_refused,
  key_refused,
  members_over,
}
use Rattle.pt_extra.proofs.Passed.{at_err, behind, in_range, is_there, none_before, not_there, plain}
use Rattle.std.specs.Prelude.{IfSome}
use Rattle.std.proofs.Common.{subst}
use Rattle.pt_extra.specs.Tokens.{IsIn}
use Rattle.pt_extra.proofs.inventory.+read.Goals as goal

pub read_items-items-init : goal.read_items-items-init
read_items-items-init t c = (length c.args.reader.now.tokens, omega arith, (λ rest. rest), none_before _, omega arith, refl)

pub read_items-items-preserved : goal.read_items-items-preserved
read_items-items-preserved t c =
    let p = value c.args.depth in
    let l = c.items in
    let n = l.invariant.0 in
    let before = l.invariant.2 in
    let first : l.reader.tokens ≡ token_of c.in-Some.token ∷ c.next_item.new.self.tokens = grind arith in
    let going : after_end_array l.reader.tokens ≡ None = grind arith in
    let done = c.in_ok-read_value.ensures in
    let r = c.read_value.new.reader.tokens in
    let d = done.read.0 in
    let long = ap length first in
    let lesser = done.shorter in
    let turn = item_read p n l.reader.tokens r d (omega (arith, l.invariant.1, long)) going (ap (λ ts. converted of_json (p ts)) first ∙ done.read.1) in (
      n - 1,
      omega (arith, l.invariant.1, long, lesser),
      (λ rest. before (item d rest)),
      l.invariant.3 ∙ ap (parse_map before) turn ∙ behind before d _,
      omega (arith, l.invariant.4, long, lesser),
      done.text ∙ c.next_item.ensures.text ∙ l.invariant.5,
    )

pub read_items-returns-in_err-token-clause-refused : goal.read_items-returns-in_err-token-clause-refused
read_items-returns-in_err-token-clause-refused t c =
    let p = value c.args.depth in
    let l = c.items in
    let empty : l.reader.tokens ≡ [] = grind arith in
    at_err c.from_residual.result (l.invariant.3 ∙ ap (parse_map l.invariant.2)
    (item_refused p l.invariant.0 l.reader.tokens (ap after_end_array empty) (ap (converted of_json) (ap p empty ∙ value_is c.args.depth []))))

pub read_items-returns-in_err-read_value-clause-refused :
    goal.read_items-returns-in_err-read_value-clause-refused
read_items-returns-in_err-read_value-clause-refused t c =
    let p = value c.args.depth in
    let l = c.items in
    let n = l.invariant.0 in
    let first : l.reader.tokens ≡ token_of c.in-Some.token ∷ c.next_item.new.self.tokens = grind arith in
    let going : after_end_array l.reader.tokens ≡ None = grind arith in
    at_err c.from_residual-in_err-read_value.result (l.invariant.3 ∙ ap (parse_map l.invariant.2)
    (item_refused p n l.reader.tokens going (ap (λ ts. converted of_json (p ts)) first ∙ c.in_err-read_value.ensures.refused)))

pub read_items-returns-clause-read : goal.read_items-returns-clause-read
read_items-returns-clause-read t c =
    let p = value c.args.depth in
    let l = c.items in
    let n = l.invariant.0 in
    let r = c.next_item.new.self.tokens in
    (l.invariant.2 no_items, l.invariant.3 ∙ ap (parse_map l.invariant.2) (items_over p n l.reader.tokens r l.invariant.1 (grind arith)))

pub read_value-returns-then-depth-eq0-clause-refused : goal.read_value-returns-then-depth-eq0-clause-refused
unfolding value
read_value-returns-then-depth-eq0-clause-refused t c =
    let none : c.args.depth ≡ 0 = omega arith in
    ap (converted of_json) (ap₂ value none (ap (λ k. token_of k ∷ c.args.reader.now.tokens) c.in-BeginArray.is))

pub read_value-returns-in_err-read_items-in-BeginArray-clause-refused :
    goal.read_value-returns-in_err-read_items-in-BeginArray-clause-refused
read_value-returns-in_err-read_items-in-BeginArray-clause-refused t c =
    let rest = c.args.reader.now.tokens in
    let opened = ap (converted of_json) (ap (λ k. value c.args.depth (token_of k ∷ rest)) c.in-BeginArray.is
    ∙ value-begin_array c.args.depth rest (omega (arith, c.if-depth-eq0.false)))
    ∙ converted-array (items (value (c.args.depth - 1)) (length rest) rest) in
    at_err c.from_residual.result (opened ∙ ap (parse_map array) c.in_err-read_items-in-BeginArray.ensures.refused)

pub read_value-returns-then-depth-eq0-2-clause-refused : goal.read_value-returns-then-depth-eq0-2-clause-refused
unfolding value
read_value-returns-then-depth-eq0-2-clause-refused t c =
    let none : c.args.depth ≡ 0 = omega arith in
    ap (converted of_json) (ap₂ value none (ap (λ k. token_of k ∷ c.args.reader.now.tokens) c.in-BeginObject.is))

pub read_value-returns-in_err-read_members-in-BeginObject-clause-refused :
    goal.read_value-returns-in_err-read_members-in-BeginObject-clause-refused
read_value-returns-in_err-read_members-in-BeginObject-clause-refused t c =
    let rest = c.args.reader.now.tokens in
    let opened = ap (converted of_json) (ap (λ k. value c.args.depth (token_of k ∷ rest)) c.in-BeginObject.is
    ∙ value-begin_object c.args.depth rest (omega (arith, c.if-depth-eq0-2.false)))
    ∙ converted-object (members (value (c.args.depth - 1)) (length rest) rest) in
    at_err c.from_residual-in_err-read_members-in-BeginObject.result (opened ∙ ap (parse_map object) c.in_err-read_members-in-BeginObject.ensures.refused)

pub read_value-returns-in-String-clause-read : goal.read_value-returns-in-String-clause-read
read_value-returns-in-String-clause-read t c = (
  string (text_of c.in-String.text.now),
  ap (converted of_json)
      (ap (λ k. value c.args.depth (token_of k ∷ c.args.reader.now.tokens)) c.in-String.is ∙ value_is c.args.depth _),
  refl,
)

pub read_value-returns-in-Bool-clause-read : goal.read_value-returns-in-Bool-clause-read
read_value-returns-in-Bool-clause-read t c = plain c.args.depth _ c.args.reader.now.tokens c.args.token refl (grind arith)

pub read_value-returns-then-is_in_range-clause-read :
    goal.read_value-returns-then-is_in_range-clause-read
read_value-returns-then-is_in_range-clause-read t c =
    let rest = c.args.reader.now.tokens in
    let there = is_there (number_of c.in-Number.text.now) (sym c.if-is_in_range.ensures) in (
      number there.0,
      ap (converted of_json) (ap (λ k. value c.args.depth (token_of k ∷ rest)) c.in-Number.is ∙ value_is c.args.depth _) ∙ ap (in_range rest) there.1,
      refl,
    )

pub read_value-returns-else-is_in_range-clause-refused :
    goal.read_value-returns-else-is_in_range-clause-refused
read_value-returns-else-is_in_range-clause-refused t c =
    let rest = c.args.reader.now.tokens in
    let lacks = not_there (number_of c.in-Number.text.now) (sym c.if-is_in_range.ensures) in
    ap (converted of_json) (ap (λ k. value c.args.depth (token_of k ∷ rest)) c.in-Number.is ∙ value_is c.args.depth _) ∙ ap (in_range rest) lacks

pub read_value-returns-in-EndObject-clause-refused :
    goal.read_value-returns-in-EndObject-clause-refused
read_value-returns-in-EndObject-clause-refused t c =
    let none : value c.args.depth (token_of c.args.token ∷ c.args.reader.now.tokens) ≡ None =
    rw (value_is c.args.depth (token_of c.args.token ∷ c.args.reader.now.tokens)) (grind arith) in
    ap (converted of_json) none

pub read_value-returns-in_ok-read_items-in-BeginArray-clause-read :
    goal.read_value-returns-in_ok-read_items-in-BeginArray-clause-read
read_value-returns-in_ok-read_items-in-BeginArray-clause-read t c =
    let rest = c.args.reader.now.tokens in
    let opened = ap (converted of_json) (ap (λ k. value c.args.depth (token_of k ∷ rest)) c.in-BeginArray.is
    ∙ value-begin_array c.args.depth rest (omega (arith, c.if-depth-eq0.false)))
    ∙ converted-array (items (value (c.args.depth - 1)) (length rest) rest) in
    let found = c.in_ok-read_items-in-BeginArray.ensures.read in
    (array found.0, opened ∙ ap (parse_map array) found.1, refl)

pub read_value-returns-in_ok-read_members-in-BeginObject-clause-read :
    goal.read_value-returns-in_ok-read_members-in-BeginObject-clause-read
read_value-returns-in_ok-read_members-in-BeginObject-clause-read t c =
    let rest = c.args.reader.now.tokens in
    let opened = ap (converted of_json) (ap (λ k. value c.args.depth (token_of k ∷ rest)) c.in-BeginObject.is
    ∙ value-begin_object c.args.depth rest (omega (arith, c.if-depth-eq0-2.false)))
    ∙ converted-object (members (value (c.args.depth - 1)) (length rest) rest) in
    let found = c.in_ok-read_members-in-BeginObject.ensures.read in
    (object found.0, opened ∙ ap (parse_map object) found.1, refl)

pub read_members-members-init : goal.read_members-members-init
read_members-members-init t c = (length c.args.reader.now.tokens, omega arith, _, refl, omega arith, refl, refl, tt)

pub read_members-returns-in_err-name-clause-refused : goal.read_members-returns-in_err-name-clause-refused
read_members-returns-in_err-name-clause-refused t c =
    let l = c.members in
    at_err c.from_residual.result (l.invariant.3 ∙ key_refused (value c.args.depth) l.invariant.2 l.invariant.0 l.reader.tokens c.in_err-name.ensures.value)

pub read_members-returns-in_err-token-clause-refused : goal.read_members-returns-in_err-token-clause-refused
read_members-returns-in_err-token-clause-refused t c =
    let p = value c.args.depth in
    let l = c.members in
    let s = c.next_key.new.self.tokens in
    let k = text_of c.in-Some.name.now in
    let named : read_key l.reader.tokens ≡ Some (Some k, s) = grind arith in
    let empty : s ≡ [] = grind arith in
    at_err c.from_residual-in_err-token.result (l.invariant.3 ∙ member_refused p l.invariant.2 l.invariant.0 k l.reader.tokens s named
    (ap (converted of_json) (ap p empty ∙ value_is c.args.depth [])))

pub read_members-members-preserved : goal.read_members-members-preserved
read_members-members-preserved t c =
    let p = value c.args.depth in
    let l = c.members in
    let n = l.invariant.0 in
    let old = l.invariant.2 in
    let k = text_of c.in-Some.name.now in
    let s = c.next_key.new.self.tokens in
    let named : read_key l.reader.tokens ≡ Some (Some k, s) = grind arith in
    let first : s ≡ token_of c.in_ok-token.token ∷ c.next.new.self.tokens = grind arith in
    let done = c.in_ok-text.ensures in
    let d = done.read.0 in
    let r = c.read_value.new.reader.tokens in
    let text = c.args.reader.now.text in
    let same = c.next_key.ensures.text ∙ l.invariant.6 in
    let is : c.next.result ≡ Some c.in_ok-token.token = grind arith in
    let inside = subst (λ t. IsIn t c.in_ok-token.token) same (subst (λ o. IfSome o (IsIn c.next_key.new.self.text)) is c.next.ensures.within) in
    let less = read_key-shorter l.reader.tokens (Some k) s named in
    let long = ap length first in
    let lesser = done.shorter in (
      n - 1,
      omega (arith, l.invariant.1, less, long, lesser),
      put k d old,
      l.invariant.3 ∙ member_read p old n k l.reader.tokens s r d (omega (arith, l.invariant.1)) named
          (ap (λ ts. converted of_json (p ts)) first ∙ done.read.1),
      omega (arith, l.invariant.4, less, long, lesser),
      c.text_at_id-id.ensures.text old d l.invariant.5 done.read.2,
      done.text ∙ c.next.ensures.text ∙ same,
      c.text_at_id-id.ensures.within text l.invariant.7 (done.within text inside),
    )

pub read_members-returns-in_err-text-clause-refused :
    goal.read_members-returns-in_err-text-clause-refused
read_members-returns-in_err-text-clause-refused t c =
    let p = value c.args.depth in
    let l = c.members in
    let n = l.invariant.0 in
    let old = l.invariant.2 in
    let k = text_of c.in-Some.name.now in
    let s = c.next_key.new.self.tokens in
    let named : read_key l.reader.tokens ≡ Some (Some k, s) = grind arith in
    let first : s ≡ token_of c.in_ok-token.token ∷ c.next.new.self.tokens = grind arith in
    at_err c.from_residual-in_err-text.result (l.invariant.3 ∙ member_refused p old n k l.reader.tokens s named
    (ap (λ ts. converted of_json (p ts)) first ∙ c.in_err-text.ensures.refused))

pub read_members-returns-clause-read : goal.read_members-returns-clause-read
read_members-returns-clause-read t c =
    let p = value c.args.depth in
    let l = c.members in
    let n = l.invariant.0 in
    (l.invariant.2, l.invariant.3 ∙ members_over p l.invariant.2 n l.reader.tokens c.next_key.new.self.tokens l.invariant.1 (grind arith), l.invariant.5)

pub read_value-returns-in-String-clause-within : goal.read_value-returns-in-String-clause-within
read_value-returns-in-String-clause-within t c = λ text of. subst (IsIn text) c.in-String.is of

pub read_members-returns-clause-within : goal.read_members-returns-clause-within
read_members-returns-clause-within t c = c.members.invariant.7
