use Rattle.pt_name.proofs.Readings.{Reads_from_reading, reading_from_Reads}
use Rattle.pt_name.proofs.laws.reading_is_computed.Goals as goal

pub returns : goal.returns
returns c = λ text bytes. (reading_from_Reads text bytes, Reads_from_reading text bytes)
