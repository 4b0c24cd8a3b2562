use Rattle.std.proofs.Common.{◌≡◌, ◌∙◌, List, ℕ, Bor, Option, Some, None, Result, Ok, Err, inl, inr, ap, sym}
use Rattle.std.specs.Option.{option_map}
use Rattle.std.specs.Result.{IsErrAnd}
use Rattle.pt_tree.specs.Refusal.{Answers}
use Rattle.pt_object.specs.Meta.{given_address, meta_refusal, parts_of}
use Rattle.pt_object.specs.MetaParts.{MetaParts}
use Rattle.pt_object.specs.declared.meta.MetaFault.{MetaFault}
use Rattle.pt_object.specs.declared.meta.MetaFault.TheVariants as meta_fault
use Rattle.pt_cli.specs.Arguments.{ReadsAs, unread_of_meta}
use Rattle.pt_cli.specs.Options.{described_by}
use Rattle.pt_cli.specs.declared.faults.Unread.{Unread}
use Rattle.pt_cli.proofs.meta_words.meta_of.Goals as goal

-- a description that is refused
no_meta : (parts : MetaParts) (refusal : Option MetaFault) (e : MetaFault) (r : Result MetaParts Unread)
    → Answers {T = MetaParts} refusal meta_fault.Memory (Err e) (λ m. m ≡ parts) → IsErrAnd r (λ y. y ≡ unread_of_meta e)
    → ReadsAs (described_by parts refusal) r
no_meta parts refusal e (Ok meta) told is = absurd is
no_meta parts (Some x) e (Err y) told is =
    let is_x : e ≡ x = cc in
    inl (ap (λ f. Err (unread_of_meta f)) (sym is_x) ∙ ap Err (sym is))
no_meta parts None e (Err y) told is = inr (is ∙ ap unread_of_meta told)

-- and one that is made
the_meta : (parts meta : MetaParts) (refusal : Option MetaFault) → Answers refusal meta_fault.Memory (Ok meta) (λ m. m ≡ parts)
    → described_by parts refusal ≡ Ok meta
the_meta parts meta (Some x) told = absurd (cc)
the_meta parts meta None told = ap Ok (sym told)

abbrev texts_of : List ℕ → List ℕ → Option (Bor (List ℕ)) → List ℕ → MetaParts
texts_of created name address message = parts_of created name (given_address (option_map (λ (a : Bor (List ℕ)). a.now) address)) message

pub returns-in_err-of : goal.returns-in_err-of
returns-in_err-of c =
    no_meta (texts_of c.args.created.now c.args.name.now c.args.address c.args.message.now) (meta_refusal c.args.created.now c.args.name.now)
    c.in_err-of.field-0.0 c.from_residual.result c.in_err-of.ensures c.from_residual.ensures.1

pub returns : goal.returns
returns c =
    the_meta (texts_of c.args.created.now c.args.name.now c.args.address c.args.message.now) c.in_ok-of.field-0
    (meta_refusal c.args.created.now c.args.name.now) c.in_ok-of.ensures
