use Rattle.pt_guard.proofs.file.nesting_of_file.Goals as goal

pub returns-in-Some-clause-ok : goal.returns-in-Some-clause-ok
returns-in-Some-clause-ok g c =
    rw c.in-Some.is (rw (c.folder_of-folder.ensures, c.has_kept_name-is_named.ensures) at c.surroundings.ensures.ok)
