-- The turns that make the folders of an object and its declaration, from their calls.
use Rattle.std.proofs.Common.{◌≡◌, ℕ, List, [], ◌∷◌, ◌++◌, refl}
use Rattle.std.specs.Prelude.{Option, Ok, IsErrAnd}
use Rattle.pt_object.specs.Files.{object_declaration_bytes}
use Rattle.pt_object.specs.Object.{object_declaration_name}
use Rattle.pt_state.proofs.Words.{
  MakeFile,
  MakeFolder,
  staging,
  Writing,
  MayMake,
  Path,
  Answer,
  Did,
  FailsPartway,
  Make,
  content_at,
  Makes,
  DeviceStates,
  does,
  Fault,
  Object,
  Part,
  Turned,
}
use Rattle.pt_state.proofs.Words.part
use Rattle.pt_state.proofs.Words.phase
use Rattle.pt_state.proofs.Words.stage
use Rattle.pt_state.specs.declared.state.State.{State}
use Rattle.pt_plan.specs.TurnMake.{MakesDeclaration, MakesStaging, MakesVersion, in_version}
use Rattle.pt_state.proofs.Turns.{keeps_same, left_some, went}

declaration : (path : Path) (bytes : List ℕ) → path ≡ staging ++ object_declaration_name ∷ [] → bytes ≡ object_declaration_bytes
    → MakeFile path bytes ≡ MakeFile (staging ++ object_declaration_name ∷ []) object_declaration_bytes
declaration path bytes is same = λ i. MakeFile (is i) (same i)

module _ (s : State) (a b : DeviceStates) (object : Object) (path : Path) where
  pub made_staging : Did (does (Makes (MakeFolder path))) a b → path ≡ staging
      → Turned (phase.Carrying object (stage.Make part.Staging)) s s a b (Ok (phase.Carrying object (stage.Make part.Declaration)))
  made_staging did is = went a b (λ fed. fed) (λ fed _. Make (MakesStaging _ object)) (rw is at did) refl (λ fed was. was) keeps_same

  pub made_declaration : (bytes : List ℕ) → Did (does (Makes (MakeFile path bytes))) a b → path ≡ staging ++ object_declaration_name ∷ []
      → bytes ≡ object_declaration_bytes → Turned (phase.Carrying object (stage.Make part.Declaration)) s s a b
      (Ok (phase.Carrying object (stage.Make part.Version)))
  made_declaration bytes did is same = went a b (λ fed. fed) (λ fed _. Make (MakesDeclaration _ object)) (rw (declaration path bytes is same) at did) refl
      (λ fed was. was) keeps_same

  pub left_declaration : (bytes : List ℕ) (f : Fault) (result : Answer) → IsErrAnd result (λ h. h ≡ f) → FailsPartway (does (Makes (MakeFile path bytes))) f a b
      → path ≡ staging ++ object_declaration_name ∷ [] → bytes ≡ object_declaration_bytes
      → Turned (phase.Carrying object (stage.Make part.Declaration)) s s a b result
  left_declaration bytes f result is some at same = left_some a b f result is (λ fed. Make (MakesDeclaration _ object))
      (rw (declaration path bytes at same) at some) keeps_same

  pub made_version : (next : Part) → Did (does (Makes (MakeFolder path))) a b → path ≡ in_version []
      → next ≡ content_at s.rows (record { row = 0; stored = 0; directories = 0 })
      → Turned (phase.Carrying object (stage.Make part.Version)) s s a b (Ok (phase.Carrying object (stage.Make next)))
  made_version next did is then =
      rw then
      (went a b (λ fed. fed) (λ fed _. Make (MakesVersion _ object)) (rw is at did) refl (λ fed was. was) keeps_same)

-- at an equal path it may be made as well
pub may_make_at : (told : Option Writing) (path at : Path) → MayMake told at → path ≡ at → MayMake told path
may_make_at told path at may is = rw is may

pub may_staging : (told : Option Writing) (path : Path) → MayMake told staging → path ≡ staging → MayMake told path
may_staging told path may is = may_make_at told path staging may is

pub may_declaration : (told : Option Writing) (path : Path) → MayMake told (staging ++ object_declaration_name ∷ [])
    → path ≡ staging ++ object_declaration_name ∷ [] → MayMake told path
may_declaration told path may is = may_make_at told path _ may is

pub may_version : (told : Option Writing) (path : Path) → MayMake told (in_version []) → path ≡ in_version [] → MayMake told path
may_version told path may is = may_make_at told path _ may is

pub ruleset parts = (made_staging, made_declaration, left_declaration, made_version, may_staging, may_declaration, may_version)
