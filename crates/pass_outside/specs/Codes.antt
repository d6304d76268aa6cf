-- How the logic stores images and scripts.
use Rattle.std.specs.Prelude.{ℕ, List, Option, refl}
use Rattle.std.specs.Coded.{Coded, code_by, coded×, coded_ℕ, coded_list, coded_option}
use Rattle.pass_outside.specs.Areas.{Image}
use Rattle.pass_outside.specs.Scripts.{Script}

abbrev pub image_code : Coded Image
image_code =
    code_by (List ℕ × List ℕ) (coded× (coded_list coded_ℕ) (coded_list coded_ℕ)) (λ i. (i.log, i.store)) (λ p. record { log = p.0; store = p.1 }) (λ _. refl)

abbrev pub script_code : Coded Script
script_code =
    code_by (List ℕ × (Option ℕ × (ℕ × (ℕ × ℕ)))) (coded× (coded_list coded_ℕ) (coded× (coded_option coded_ℕ) (coded× coded_ℕ (coded× coded_ℕ coded_ℕ))))
    (λ s. (s.fail, (s.stop, (s.calls, (s.faults, s.starved))))) (λ p. record { fail = p.0; stop = p.1.0; calls = p.1.1.0; faults = p.1.1.1.0; starved = p.1.1.1.1 }) (λ _. refl)
