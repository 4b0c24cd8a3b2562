use Rattle.std.proofs.Common.{◌∙◌, ◌++◌, ◌<◌, length, ap, sym, arith, take}
use Rattle.std.specs.List.{concat}
use Rattle.std.specs.Option.{option_copied}
use Rattle.pt_name.proofs.NamesJoined.{concat_more, name_there}
use Rattle.pt_name.proofs.joining.concatenate.Goals as goal
use Rattle.pt_name.proofs.joining.concatenate.Goals.{in-Some+in_ok-extend_from_slice, in_default}

pub loop-i-preserved : goal.loop-i-preserved
loop-i-preserved c = elim c.match-get.branch [
  | in-Some+in_ok-extend_from_slice w ↦
      let there = sym c.get.ensures ∙ ap option_copied w.in-Some.is in
      ap (λ v. v.items) w.text-is ∙ w.in_ok-extend_from_slice.ensures.items ∙ ap (λ text. text ++ w.bytes.result.now) c.loop-i.invariant
      ∙ ap (λ name. concat (take c.loop-i.i c.args.path.now) ++ name) w.bytes.ensures.bytes
      ∙ concat_more c.args.path.now c.loop-i.i _ there
  | in_default w ↦
      let none = sym c.get.ensures ∙ ap option_copied w.in_default.is in
      let within : c.loop-i.i < length c.args.path.now = omega arith in
      absurd (name_there c.args.path.now c.loop-i.i within none)
]
