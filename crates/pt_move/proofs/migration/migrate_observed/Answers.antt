use Rattle.std.proofs.Common.{rules}
use Rattle.pt_move.proofs.migration.migrate_observed.Goals as goal

-- what the devices tell is what `run` tells of them as one, and that each stays is what their calls allow
pub returns : goal.returns
returns g c = record {
  run = record {
    promises = search rules;
    source_stays = search rules;
    dest_stays = search rules;
    log_stays = search rules;
    source_fails = search rules;
  };
  unmet = search rules;
}
