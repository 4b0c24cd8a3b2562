use Rattle.std.proofs.Common.{List, ap, arith, rules, sym, ◌∙◌}
use Rattle.std.specs.Prelude.{false, slice_get, true}
use Rattle.pt_audit.proofs.Layouts.{all_there, another, no_fourth, one_more, told_so}
use Rattle.pt_invariant.proofs.source.RootChecks.{file_short}
use Rattle.pt_object.specs.FilePaths.{File}
use Rattle.pt_object.specs.RootFiles.{files_lent}
use Rattle.pt_state.specs.States.{job_of}
use Rattle.pt_audit.proofs.layout.has_files.Goals as goal

pub unreachable-requires : goal.unreachable-requires
unreachable-requires g c =
    no_fourth (job_of c.args.job.now) c.loop-i.i (omega (arith, c.loop-i-test.true))
    (ap (λ (l : List File). slice_get l c.loop-i.i) (sym c.in_ok-files.ensures) ∙ sym c.get.ensures ∙ ap files_lent c.in_default.is)

pub has_file-requires : goal.has_file-requires
has_file-requires g c =
    file_short c.args.job.now.layout c.loop-i.i c.in-Some.path.now c.in-Some.bytes.now c.requires.layout
    (ap (λ (l : List File). slice_get l c.loop-i.i) (sym c.in_ok-files.ensures) ∙ sym c.get.ensures ∙ ap files_lent c.in-Some.is)

pub returns-then-not-same-clause-layout : goal.returns-then-not-same-clause-layout
returns-then-not-same-clause-layout g c =
    another _ (job_of c.args.job.now) c.loop-i.i c.in-Some.path.now c.in-Some.bytes.now
    (ap (λ (l : List File). slice_get l c.loop-i.i) (sym c.in_ok-files.ensures) ∙ sym c.get.ensures ∙ ap files_lent c.in-Some.is)
    c.requires.folder (told_so _ _ _ _ _ false c.loop-i.invariant.0.1 (search rules) c.in_ok-same.ensures.there)

pub loop-i-preserved : goal.loop-i-preserved
loop-i-preserved g c =
    let was = c.loop-i.invariant in
    let went = c.in_ok-same.ensures in (
      (g.met.R.Source.keeps_on _ _ _ was.0.0 went.root.0, went.root.1 ∙ was.0.1),
      went.failures ∙ was.1,
      one_more _ (job_of c.args.job.now) c.loop-i.i c.in-Some.path.now c.in-Some.bytes.now
          (ap (λ (l : List File). slice_get l c.loop-i.i) (sym c.in_ok-files.ensures) ∙ sym c.get.ensures ∙ ap files_lent c.in-Some.is)
          (told_so _ _ _ _ _ true was.0.1 (search rules) went.there) was.2,
    )

pub returns-clause-layout : goal.returns-clause-layout
returns-clause-layout g c =
    all_there _ (job_of c.args.job.now) c.loop-i.i (search rules) (search rules) c.requires.folder c.loop-i.invariant.2
