use Rattle.std.proofs.Common.{rules}
use Rattle.std.specs.Prelude.{None}
use Rattle.pt_audit.proofs.StepRules.{halt_leaves, halt_leaves_log, halt_well, step_leaves, step_leaves_log, step_looks, step_passes, step_well}
use Rattle.pt_audit.proofs.Stepping.{looking_is}
use Rattle.pt_audit.proofs.Files.{step_scans, step_scans_none}
use Rattle.pt_audit.proofs.Steps.{step_steps}
use Rattle.pt_audit.proofs.Stopping.{halt_stops, halt_untold}
use Rattle.pt_audit.proofs.survey.step_phase.Goals as goal

pub returns-in_err-pass-clause-well : goal.returns-in_err-pass-clause-well
returns-in_err-pass-clause-well g c =
    halt_well c.args.here c.in_err-pass.field-0.0 _ _ _ _ _ None None _ _ _ _ c.from_residual.result (search rules) c.requires.ready c.in_err-pass.ensures.turn

pub returns-in_err-pass-clause-leaves : goal.returns-in_err-pass-clause-leaves
returns-in_err-pass-clause-leaves g c =
    halt_leaves_log c.args.here c.in_err-pass.field-0.0 _ _ _ _ _ _ None _ _ _ 0 _ (search rules) c.requires.ready c.in_err-pass.ensures.turn

pub returns-in_err-look-clause-well : goal.returns-in_err-look-clause-well
returns-in_err-look-clause-well g c =
    halt_well c.args.here c.in_err-look.field-0.0 _ _ _ _ _ _ _ _ _ _ _ c.from_residual-in_err-look.result (search rules) c.requires.ready
    c.in_err-look.ensures.turn

pub returns-in_err-look-clause-leaves : goal.returns-in_err-look-clause-leaves
returns-in_err-look-clause-leaves g c =
    halt_leaves c.args.here c.in_err-look.field-0.0 _ _ _ _ _ _ _ _ _ _ _ _ (search rules) c.requires.ready c.in_err-look.ensures.turn

pub returns-in_ok-pass-clause-on : goal.returns-in_ok-pass-clause-on
returns-in_ok-pass-clause-on g c = λ count it.
    step_passes c.args.here c.in_ok-pass.field-0 _ _ _ _ _ _ None _ 0 _ 0 _ count (search rules)
    (search rules) c.in_ok-pass.ensures.turn c.in_ok-pass.ensures.unmet it

pub returns-in_ok-pass-clause-well : goal.returns-in_ok-pass-clause-well
returns-in_ok-pass-clause-well g c =
    step_well c.args.here c.in_ok-pass.field-0 _ _ _ _ _ None None _ _ _ _ _ (search rules) c.requires.ready c.in_ok-pass.ensures.turn

pub returns-in_ok-pass-clause-leaves : goal.returns-in_ok-pass-clause-leaves
returns-in_ok-pass-clause-leaves g c =
    step_leaves_log c.args.here c.in_ok-pass.field-0 _ _ _ _ _ _ None _ _ _ 0 _ (search rules) c.requires.ready c.in_ok-pass.ensures.turn

pub returns-in_ok-look-clause-on : goal.returns-in_ok-look-clause-on
returns-in_ok-look-clause-on g c = λ count it.
    step_looks c.args.here c.in_ok-look.field-0 _ _ _ _ _ _ _ _ _ _ _ _ count (search rules)
    (looking_is _ c.args.here _ c.requires.ready.under_way (search rules) c.requires.more) c.in_ok-look.ensures.turn c.in_ok-look.ensures.unmet it

pub returns-in_ok-look-clause-well : goal.returns-in_ok-look-clause-well
returns-in_ok-look-clause-well g c =
    step_well c.args.here c.in_ok-look.field-0 _ _ _ _ _ _ _ _ _ _ _ _ (search rules) c.requires.ready c.in_ok-look.ensures.turn

pub returns-in_ok-look-clause-leaves : goal.returns-in_ok-look-clause-leaves
returns-in_ok-look-clause-leaves g c =
    step_leaves c.args.here c.in_ok-look.field-0 _ _ _ _ _ _ _ _ _ _ _ _ (search rules) c.requires.ready c.in_ok-look.ensures.turn

pub returns-in_ok-pass-clause-made : goal.returns-in_ok-pass-clause-made
returns-in_ok-pass-clause-made g c = record {
  steps = step_steps c.args.here c.in_ok-pass.field-0 _ _ _ _ _ _ None None _ _ _ _ _ _ _ (search rules) c.requires.ready c.in_ok-pass.ensures.turn;
  scans = step_scans_none c.args.here c.in_ok-pass.field-0 _ _ _ _ _ _ _ _ _ _ _ _ _ _ _ (search rules) (search rules) c.requires.ready.under_way
      c.in_ok-pass.ensures.turn;
}

pub returns-in_ok-look-clause-made : goal.returns-in_ok-look-clause-made
returns-in_ok-look-clause-made g c = record {
  steps = step_steps c.args.here c.in_ok-look.field-0 _ _ _ _ _ _ _ _ _ _ _ _ _ _ _ (search rules) c.requires.ready c.in_ok-look.ensures.turn;
  scans = step_scans c.args.here c.in_ok-look.field-0 _ _ _ _ _ _ _ _ _ _ _ _ _ _ _ (search rules)
      (looking_is _ c.args.here _ c.requires.ready.under_way (search rules) c.requires.more) c.requires.ready.under_way c.in_ok-look.ensures.turn
      c.in_ok-look.ensures.block;
}

pub returns-in_err-pass-clause-stops : goal.returns-in_err-pass-clause-stops
returns-in_err-pass-clause-stops g c = λ count it. halt_untold c.from_residual.result _ _ count c.args.here _

pub returns-in_err-look-clause-stops : goal.returns-in_err-look-clause-stops
returns-in_err-look-clause-stops g c = λ count it.
    halt_stops c.args.here c.in_err-look.field-0.0 _ _ _ _ _ _ _ _ _ _ _ c.from_residual-in_err-look.result count (search rules)
    (looking_is _ c.args.here _ c.requires.ready.under_way (search rules) c.requires.more) c.in_err-look.ensures.turn it
