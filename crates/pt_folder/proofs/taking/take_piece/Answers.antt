use Rattle.std.proofs.Common.{◌≡◌, ◌==◌, ◌+◌, ◌∙◌, sym, Some, None, le_refl, List, ℕ}
use Rattle.std.specs.List.{position}
use Rattle.std.proofs.lemmas.List.{take_rest}
use Rattle.pt_folder.specs.Calls.{IsDueTo}
use Rattle.pt_folder.specs.Names.{RefusesBytes}
use Rattle.pt_folder.specs.declared.failure.FailureReason.TheVariants as cause
use Rattle.pt_folder.proofs.Kept.{kept_names, kept_on}
use Rattle.pt_folder.proofs.Taken.{err_handed, left_short, name_refused, rest_refused, took_all, took_none, took_one}
use Rattle.pt_folder.proofs.taking.take_piece.Goals as goal

pub loop-end-init : goal.loop-end-init
loop-end-init g c = record { short = le_refl _; took = took_none g.T.Takes.has c.args.piece.now c.args.taken.now }

pub loop-end-preserved : goal.loop-end-preserved
loop-end-preserved g c =
    let rest = c.loop-end.rest.now in
    let found : position (λ b. b == 0) rest ≡ Some c.in-Some.end = sym c.nul_at.ensures ∙ c.in-Some.is in
    let left = take_rest rest (c.in-Some.end + 1) in
    record {
      short = left_short c.args.piece.now rest _ (c.in-Some.end + 1) c.loop-end.invariant.short left;
      took = took_one g.T.Takes.has c.args.piece.now rest c.args.taken.now c.loop-end.taken c.loop-end.invariant.took c.in-Some.end found c.take.new.self
          c.in_ok-take.ensures.taken _ left;
    }

pub returns-then-is_empty-clause-taken : goal.returns-then-is_empty-clause-taken
returns-then-is_empty-clause-taken g c = took_all g.T.Takes.has c.args.piece.now c.loop-end.rest.now c.args.taken.now c.loop-end.taken c.loop-end.invariant.took
    (sym (c.if-is_empty.ensures))

pub returns-in_err-take-clause-fault : goal.returns-in_err-take-clause-fault
returns-in_err-take-clause-fault g c =
    let rest = c.loop-end.rest.now in
    let has = g.T.Takes.has in
    let refuses = g.T.Takes.refuses in
    let found : position (λ b. b == 0) rest ≡ Some c.in-Some.end = sym c.nul_at.ensures ∙ c.in-Some.is in
    err_handed c.from_residual.result c.in_err-take.field-0.0 (λ fault. (all : List (List ℕ)) → has c.args.taken.now all
    → IsDueTo fault (RefusesBytes refuses all c.args.piece.now)) c.from_residual.ensures.1
    (name_refused has c.args.piece.now rest c.args.taken.now c.loop-end.taken c.loop-end.invariant.took c.in-Some.end found refuses c.in_err-take.field-0.0
    c.in_err-take.ensures.fault)

pub returns-else-is_empty-clause-fault : goal.returns-else-is_empty-clause-fault
returns-else-is_empty-clause-fault g c =
    let rest = c.loop-end.rest.now in
    let none : position (λ b. b == 0) rest ≡ None = sym c.nul_at.ensures ∙ c.in_default.is in
    rest_refused g.T.Takes.has c.args.piece.now rest c.args.taken.now c.loop-end.taken c.loop-end.invariant.took g.T.Takes.refuses none
    (sym (c.if-is_empty.ensures))

pub returns-in_err-take-clause-kept : goal.returns-in_err-take-clause-kept
returns-in_err-take-clause-kept g c = kept_on c.from_residual.result c.in_err-take.field-0.0 _ c.from_residual.ensures.1 c.in_err-take.ensures.kept

pub returns-else-is_empty-clause-kept : goal.returns-else-is_empty-clause-kept
returns-else-is_empty-clause-kept g c = kept_names c.keep_copy.new.self.failure c.args.text.now cause.Endless c.keep_copy.ensures tt
