-- That a state holds its fields, and nothing else.
use Rattle.std.proofs.Common.{refl}
use Rattle.pt_object.proofs.Cores.{is_its_core}
use Rattle.pt_state.specs.Fields.{HoldsNothingElse}
use Rattle.pt_state.specs.declared.state.State.{State}

pub holds_nothing_else : (s : State) → HoldsNothingElse s
holds_nothing_else s = record {
  fields = record {
    alloc = s.alloc;
    job = s.job;
    prefix = s.prefix;
    trail = s.trail;
    rows = s.rows;
    contents = s.contents;
    block = s.block.items;
    hasher = s.hasher;
    unmet = s.unmet;
    counts = s.counts;
  };
  state = refl;
  hasher = is_its_core s.hasher;
}
