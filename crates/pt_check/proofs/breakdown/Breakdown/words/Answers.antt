use Rattle.std.proofs.Common.{ap, sym}
use Rattle.pt_check.specs.Breakdown.{class_words}
use Rattle.pt_check.proofs.breakdown.Breakdown.words.Goals as goal

pub returns-in-BytesOf : goal.returns-in-BytesOf
returns-in-BytesOf c = sym (ap class_words c.in-BytesOf.is)

pub returns-in-FilesOf : goal.returns-in-FilesOf
returns-in-FilesOf c = sym (ap class_words c.in-FilesOf.is)

pub returns-in-ObjectsAt : goal.returns-in-ObjectsAt
returns-in-ObjectsAt c = sym (ap class_words c.in-ObjectsAt.is)

pub returns-in-SitesAt : goal.returns-in-SitesAt
returns-in-SitesAt c = sym (ap class_words c.in-SitesAt.is)
