use Rattle.std.proofs.Common.{◌≡◌, ◌%◌, ◌/◌, ◌<◌, arith, true}
use Rattle.std.proofs.lemmas.Bool.Decides.{nat_tests}
use Rattle.std.specs.Prelude.{nat_lt}
use Rattle.pt_messages.proofs.Grouping.{two_digits_written}
use Rattle.pt_messages.proofs.numbers.time.Goals as goal

pub returns-then-seconds-lt3600 : goal.returns-then-seconds-lt3600
returns-then-seconds-lt3600 c =
    let test : nat_lt (c.args.millis / 1000) 3600 ≡ true = grind (arith, nat_tests) in
    let small : c.args.millis / 1000 % 60 < 100 = omega arith in
    rw test (rw (c.laid_out.ensures, two_digits_written (c.args.millis / 1000 % 60) small) at c.format.ensures.ok)
