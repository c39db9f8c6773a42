mod WhoPasses
