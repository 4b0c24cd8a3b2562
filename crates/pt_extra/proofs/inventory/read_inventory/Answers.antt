use Rattle.std.proofs.Common.{◌≡◌, ◌∙◌, ◌∷◌, [], ap, arith, length}
use Rattle.std.proofs.lemmas.Result.{IfOk-weaker, on_err_weaker}
use Rattle.json.specs.Json.{members, value, parse_map}
use Rattle.json.proofs.Grammar.{value_is, value-begin_object}
use Rattle.pt_extra.proofs.Converted.{converted-object}
use Rattle.pt_extra.proofs.Passed.{at_err}
use Rattle.pt_extra.proofs.ReadTexts.{no_object, text_read}
use Rattle.pt_extra.specs.Tokens.{token_of}
use Rattle.serde_json.specs.Data.{object}
use Rattle.serde_json.specs.Read.{converted, of_json}
use Rattle.std.proofs.Common.{subst}
use Rattle.std.specs.Prelude.{IfOk}
use Rattle.pt_extra.specs.Tokens.{IsStringIn}
use Rattle.pt_extra.proofs.inventory.read_inventory.Goals as goal

pub returns-in_err-token-clause-refused : goal.returns-in_err-token-clause-refused
returns-in_err-token-clause-refused c =
    let empty : c.args.reader.now.tokens ≡ [] = grind arith in
    at_err c.from_residual.result (ap (λ ts. text_read (converted of_json (value 127 ts))) empty ∙ ap (λ o. text_read (converted of_json o)) (value_is 127 []))

pub returns-in-BeginObject-clause-read : goal.returns-in-BeginObject-clause-read
returns-in-BeginObject-clause-read c =
    let first : c.args.reader.now.tokens ≡ token_of c.in_ok-token.token ∷ c.next.new.self.tokens = grind arith in
    let opened = ap (converted of_json) (ap (value 127) (first ∙ ap (λ k. token_of k ∷ c.next.new.self.tokens) c.in-BeginObject.is)
    ∙ value-begin_object 127 c.next.new.self.tokens (omega arith))
    ∙ converted-object (members (value 126) (length c.next.new.self.tokens) c.next.new.self.tokens) in
    IfOk-weaker c.read_members.result _ _ (λ id found. (found.0, opened ∙ ap (parse_map object) found.1, found.2)) c.read_members.ensures.read

pub returns-in-BeginObject-clause-refused : goal.returns-in-BeginObject-clause-refused
returns-in-BeginObject-clause-refused c =
    let first : c.args.reader.now.tokens ≡ token_of c.in_ok-token.token ∷ c.next.new.self.tokens = grind arith in
    let opened = ap (converted of_json) (ap (value 127) (first ∙ ap (λ k. token_of k ∷ c.next.new.self.tokens) c.in-BeginObject.is)
    ∙ value-begin_object 127 c.next.new.self.tokens (omega arith))
    ∙ converted-object (members (value 126) (length c.next.new.self.tokens) c.next.new.self.tokens) in
    on_err_weaker c.read_members.result (λ refused. ap text_read (opened ∙ ap (parse_map object) refused)) c.read_members.ensures.refused

pub returns-in_default : goal.returns-in_default
returns-in_default c =
    let first : c.args.reader.now.tokens ≡ token_of c.in_ok-token.token ∷ c.next.new.self.tokens = grind arith in
    record {
      read = tt;
      within = tt;
      refused =
          no_object c.args.reader.now.tokens c.next.new.self.tokens c.in_ok-token.token first c.in_default.not-BeginObject;
    }

pub returns-in-BeginObject-clause-within : goal.returns-in-BeginObject-clause-within
returns-in-BeginObject-clause-within c =
    subst (λ text. IfOk c.read_members.result (IsStringIn text)) c.next.ensures.text c.read_members.ensures.within
