-- A descriptor is of one kind.
use Rattle.std.proofs.Common.{◌≡◌, refl, true, false}
use Rattle.pass_entry.specs.declared.objects.Descriptor.{Descriptor}
use Rattle.pass_entry.specs.declared.objects.Kind.{Kind}
use Rattle.pass_entry.specs.declared.objects.Kind.TheVariants as kind
use Rattle.pass_plain.specs.Processes.{is_app, is_file, is_pipe}
use Rattle.pass_plain.specs.Registries.{same_kind}

kind_file : (k : Kind) → same_kind k kind.File ≡ true → (same_kind k kind.Pipe ≡ false) × (same_kind k kind.App ≡ false)
kind_file kind.File is = (refl, refl)
kind_file _ is = absurd (cc)

pub file_alone : (d : Descriptor) → is_file d ≡ true → (is_pipe d ≡ false) × (is_app d ≡ false)
file_alone d is = kind_file d.kind is

kind_pipe : (k : Kind) → same_kind k kind.Pipe ≡ true → (same_kind k kind.File ≡ false) × (same_kind k kind.App ≡ false)
kind_pipe kind.Pipe is = (refl, refl)
kind_pipe _ is = absurd (cc)

pub pipe_alone : (d : Descriptor) → is_pipe d ≡ true → (is_file d ≡ false) × (is_app d ≡ false)
pipe_alone d is = kind_pipe d.kind is

kind_app : (k : Kind) → same_kind k kind.App ≡ true → (same_kind k kind.File ≡ false) × (same_kind k kind.Pipe ≡ false)
kind_app kind.App is = (refl, refl)
kind_app _ is = absurd (cc)

pub app_alone : (d : Descriptor) → is_app d ≡ true → (is_file d ≡ false) × (is_pipe d ≡ false)
app_alone d is = kind_app d.kind is
