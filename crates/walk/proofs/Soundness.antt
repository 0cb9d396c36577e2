-- A sound record is sound after any call, whatever it answers.
use mathlib.Core.List.{List, [], ◌∷◌}
use mathlib.Core.Path.{◌≡◌, refl, sym, ◌∙◌}
use Prim.Native.Nat.{ℕ, ◌+◌, ◌-◌, ◌≤◌}
use native.Mathlib.Omega.{arith}
use lib.ListN.{get_or, length-set}
use Rattle.reply.specs.Reply.{Reply, served, refused, spent, after}
use Rattle.walk.specs.declared.Walk.{Walk}
use Rattle.walk.specs.Walks.{full_count, held, draw_reply, moved_on, after_draw, set_mark_reply, after_set_mark, go_back_reply, after_go_back}
use Rattle.walk.specs.Calls.{Call, look, draw, set_mark, go_back, record_after, last}
use Rattle.walk.specs.Claims.{Good, Sound}
use Rattle.walk.proofs.Above.{set_most}
use Rattle.walk.proofs.Looks.{good, accepted}
use Rattle.walk.proofs.Keeping.{right_at}
use Rattle.walk.proofs.Draws.{draw_good, draw_given}

after_sound : (reply : Reply) {new old : Walk} → Sound new → Sound old → Sound (after reply new old)
after_sound (served values) new old = new
after_sound (refused number) new old = old
after_sound spent new old = old

module _ (walk : Walk) (sound : Sound walk) where
  abbrev is_good : Good walk
  is_good = good walk sound.accepted

  drawn_sound : (bonder : ℕ) → Sound (after_draw walk bonder)
  unfolding after_draw
  drawn_sound bonder = go (draw_reply walk bonder) refl
    where
      go : (reply : Reply) → draw_reply walk bonder ≡ reply → Sound (after reply (moved_on walk bonder) walk)
      go (served values) e =
          let given =
          draw_given walk.degree walk.position walk.counts bonder (held walk)
          (sym (draw_good walk bonder sound.accepted) ∙ e) in
          let most = is_good.counts bonder in
          let room = given.room in
          let less : get_or walk.counts bonder 0 + 1 ≤ full_count = omega arith in
          record {
            accepted = accepted (moved_on walk bonder) (record {
              degree_low = is_good.degree_low;
              degree_high = is_good.degree_high;
              position = omega (arith, given.below);
              marks = is_good.marks;
              counts = set_most full_count walk.counts is_good.counts bonder _ less;
            });
            eight_marks = sound.eight_marks;
            eight_counts = length-set walk.counts bonder _ ∙ sound.eight_counts;
            right = right_at walk.degree (walk.position + 1) _ _;
          }
      go (refused number) e = sound
      go spent e = sound

  marked_sound : (mark : ℕ) → Sound (after_set_mark walk mark)
  unfolding after_set_mark
  marked_sound mark =
      let l = is_good.position in
      after_sound (set_mark_reply walk mark) (record {
        accepted = accepted _ (record {
          degree_low = is_good.degree_low;
          degree_high = is_good.degree_high;
          position = l;
          marks = set_most _ walk.marks is_good.marks mark (walk.position + 1) (omega arith);
          counts = is_good.counts;
        });
        eight_marks = length-set walk.marks mark _ ∙ sound.eight_marks;
        eight_counts = sound.eight_counts;
        right = record { below = sound.right.below; at_end = sound.right.at_end };
      }) sound

  returned_sound : (mark : ℕ) → Sound (after_go_back walk mark)
  unfolding after_go_back
  returned_sound mark =
      let l = is_good.marks mark in
      after_sound (go_back_reply walk mark) (record {
        accepted = accepted _ (record {
          degree_low = is_good.degree_low;
          degree_high = is_good.degree_high;
          position = omega arith;
          marks = is_good.marks;
          counts = is_good.counts;
        });
        eight_marks = sound.eight_marks;
        eight_counts = sound.eight_counts;
        right = right_at walk.degree (get_or walk.marks mark 0 - 1) _ _;
      }) sound

  pub next_sound : (call : Call) → Sound (record_after call walk)
  next_sound look = sound
  next_sound (draw bonder) = drawn_sound bonder
  next_sound (set_mark mark) = marked_sound mark
  next_sound (go_back mark) = returned_sound mark

pub last_sound : (walk : Walk) → Sound walk → (calls : List Call) → Sound (last walk calls)
last_sound walk sound [] = sound
last_sound walk sound (call ∷ calls) = last_sound (record_after call walk) (next_sound walk sound call) calls
