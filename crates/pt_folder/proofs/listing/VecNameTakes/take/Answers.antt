use Rattle.std.proofs.Common.{arith, rules}
use Rattle.pt_folder.specs.Listing.{most_entries}
use Rattle.pt_folder.specs.declared.failure.FailureReason.TheVariants as cause
use Rattle.pt_folder.proofs.Kept.{kept_bad, kept_bytes, kept_name, kept_names}
use Rattle.pt_folder.proofs.listing.VecNameTakes.take.Goals as goal

pub returns-then-len-ge-MOST-clause-cause : goal.returns-then-len-ge-MOST-clause-cause
returns-then-len-ge-MOST-clause-cause c = kept_name c.keep_copy.new.self.failure c.args.text.now cause.Entries most_entries c.args.self.now.items
    c.args.bytes.now c.keep_copy.ensures (omega arith)

pub returns-then-len-ge-MOST-clause-kept : goal.returns-then-len-ge-MOST-clause-kept
returns-then-len-ge-MOST-clause-kept c = kept_names c.keep_copy.new.self.failure c.args.text.now cause.Entries c.keep_copy.ensures tt

pub returns-in-Err-clause-cause : goal.returns-in-Err-clause-cause
returns-in-Err-clause-cause c = kept_bad c.keep_name.new.self.failure c.args.text.now most_entries c.args.self.now.items c.args.bytes.now c.keep_name.ensures
    (search rules)

pub returns-in-Err-clause-kept : goal.returns-in-Err-clause-kept
returns-in-Err-clause-kept c = kept_bytes c.keep_name.new.self.failure c.args.text.now c.args.bytes.now c.keep_name.ensures (search rules)
