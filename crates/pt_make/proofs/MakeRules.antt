-- What the functions of the crate are proved by.
use Rattle.pt_make.proofs.Copies.{comparing, copying, reading}
use Rattle.pt_make.proofs.NextParts.{next_parts}
use Rattle.pt_make.proofs.Parts.{parts}
use Rattle.pt_make.proofs.Pieces.{pieces}
use Rattle.pt_make.proofs.Places.{placing}
use Rattle.pt_make.proofs.Standing.{standing}
use Rattle.pt_make.proofs.Tells.{telling}
use Rattle.pt_make.proofs.Texts.{files, inventories}
use Rattle.pt_state.proofs.Together.{together}
use Rattle.pt_state.proofs.Turns.{turns}

pub ruleset make_rules = (next_parts, turns, copying, reading, comparing, standing, files, together, inventories, parts, pieces, placing, telling)
