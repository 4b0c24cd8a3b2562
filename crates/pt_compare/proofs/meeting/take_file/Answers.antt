use Rattle.pt_compare.proofs.meeting.take_file.Goals as goal

pub returns-then-is_of_kind : goal.returns-then-is_of_kind
returns-then-is_of_kind c = record { taken = c.in_ok-here.ensures.marks }
