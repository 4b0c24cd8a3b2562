use Rattle.pt_name.proofs.Spelled.{cleaned_reads}
use Rattle.pt_name.proofs.laws.cleaned_reads_back.Goals as goal

pub returns : goal.returns
returns c = cleaned_reads
