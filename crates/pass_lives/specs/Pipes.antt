-- The pipes that a process holds, in the order of the numbers of its descriptors.
use Rattle.std.specs.Prelude.{ℕ, ◌-◌, List, Option, Some, None, filter, filter_map, if◌then◌else◌}
use Rattle.std.specs.Option.{option_map_or}
use Rattle.std.specs.List.{range_with_len}
use Rattle.std.specs.FinMap as finite_map
use Rattle.pass_entry.specs.declared.objects.Descriptor.{Descriptor}
use Rattle.pass_plain.specs.Processes.{Held, is_pipe}

-- what is held under a number, where it is a pipe
abbrev pub pipe_at : Held → ℕ → Option Descriptor
pipe_at held fd = option_map_or (λ (d : Descriptor). if is_pipe d then Some d else None) (finite_map.get held fd) None

-- the pipes under this number and the greater ones
abbrev pub pipes_from : Held → ℕ → List Descriptor
pipes_from held fd = filter is_pipe (filter_map (finite_map.get held) (range_with_len fd (64 - fd)))
