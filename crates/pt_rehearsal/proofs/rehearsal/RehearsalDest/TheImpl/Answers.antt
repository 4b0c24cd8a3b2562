-- Each call of a rehearsal is one of its calls: Calls.antt of specs.
use Rattle.pt_rehearsal.specs.Calls.{closes, looks, makes_dir, makes_file, moves, next, none, peeks, writes}
use Rattle.pt_rehearsal.proofs.rehearsal.RehearsalDest.TheImpl.Goals as goal

pub kind-tells : goal.kind-tells
kind-tells g c =
    let own = c.ensures in record {
      kind = own.kind;
      same = own.same;
      failures = own.call.failures;
      looks = λ n is. tt;
      keeps = (own.call.keeps, next _ _ none (looks c.args.path.now c.result own.asked own.remembered own.call));
    }

pub peek-tells : goal.peek-tells
peek-tells g c =
    let own = c.ensures in record {
      block = own.block;
      empty = own.empty;
      same = own.same;
      failures = own.call.failures;
      looks = λ n is. tt;
      keeps = (
        own.call.keeps,
        next _ _ none (peeks c.args.path.now c.new.block.now.items c.result own.asked own.remembered own.call),
      );
    }

pub mkdir-tells : goal.mkdir-tells
mkdir-tells g c =
    let own = c.ensures in record {
      made = own.made;
      same = own.same;
      failures = own.call.failures;
      looks = λ n is. tt;
      keeps = (
        own.call.keeps,
        next _ _ none (makes_dir c.args.path.now c.result own.asked own.refused own.remembered own.call),
      );
    }

pub create-tells : goal.create-tells
create-tells g c =
    let own = c.ensures in record {
      made = own.made;
      same = own.same;
      failures = own.call.failures;
      looks = λ n is. tt;
      keeps = (
        own.call.keeps,
        next _ _ none (makes_file c.args.path.now c.result own.system own.refused own.remembered own.call),
      );
    }

pub append-tells : goal.append-tells
append-tells g c =
    let own = c.ensures in record {
      added = own.added;
      part = own.part;
      failures = own.call.failures;
      looks = λ n is. tt;
      keeps = (own.call.keeps, next _ _ none (writes c.args.piece.now own.dest own.remembered));
    }

pub finish-tells : goal.finish-tells
finish-tells g c =
    let own = c.ensures in record {
      closed = own.closed;
      same = own.same;
      failures = own.call.failures;
      looks = λ n is. tt;
      keeps = (own.call.keeps, next _ _ none (closes own.dest own.remembered));
    }

pub rename-tells : goal.rename-tells
rename-tells g c =
    let own = c.ensures in record {
      moved = own.moved;
      same = own.same;
      failures = own.call.failures;
      looks = λ n is. tt;
      keeps = (
        own.call.keeps,
        next _ _ none (moves c.args.from.now c.args.to.now c.result own.system own.refused own.remembered own.call),
      );
    }
