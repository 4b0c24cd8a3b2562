use Rattle.std.proofs.Common.{refl}
use Rattle.pt_object.proofs.root.root_files.Goals as goal

pub returns : goal.returns
returns c = rw (
  c.in_ok-push-3.ensures.items,
  c.in_ok-push-2.ensures.items,
  c.in_ok-push.ensures.items,
  c.in_ok-files.ensures.items,
  c.in_ok-declaration_path.ensures,
  c.in_ok-layout_path.ensures,
  c.in_ok-config_path.ensures,
  c.in_ok-declaration.ensures.ok,
  c.in_ok-layout_file.ensures,
  c.in_ok-config.ensures,
  c.size.ensures.size,
  c.count.ensures.count,
) refl
